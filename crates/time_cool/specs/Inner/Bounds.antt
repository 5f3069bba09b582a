-- How great sums of times can get.
use Rattle.std.specs.Prelude.{ℕ, ◌≤◌}
use Rattle.time_cool.specs.declared.cooling.Spent.{Spent}

-- neither time is beyond n
pub record AtMost (n : ℕ) (spent : Spent) : Type 0 where
  pub printing : spent.printing ≤ n
  pub travelling : spent.travelling ≤ n
