-- A window as contracts see it.
use Rattle.std.specs.Prelude.{ℕ}
use Rattle.preheat_plan.specs.Held.{Held}

-- what it holds and remembers, and how many plans it has taken
pub record WindowValue : Type 0 where
  pub held : Held
  pub taken : ℕ
