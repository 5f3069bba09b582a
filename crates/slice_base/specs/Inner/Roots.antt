-- The whole part of a square root.
use Rattle.std.specs.Prelude.{ℕ, ◌+◌, ◌*◌, ◌≤◌}

-- r is the whole part of the square root of n
pub record IsFloorRoot (n r : ℕ) : Type 0 where
  pub square_in : r * r ≤ n
  pub next_out : n ≤ r * r + 2 * r
