-- Numbers that stay small.
use Rattle.std.specs.Prelude.{ℕ, ◌≤◌, unsigned_abs}
use Rattle.clip_core.specs.declared.windings.Windings.{Windings}

-- neither number is beyond n
pub record AreSmall (n : ℕ) (m : Windings) : Type 0 where
  pub first_small : unsigned_abs m.first ≤ n
  pub second_small : unsigned_abs m.second ≤ n
