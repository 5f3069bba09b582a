-- How a worker ends.
use Rattle.std.specs.Prelude.{ℕ, ◌≡◌, ◌⊎◌, List, None, IsSome, true, false}
use Rattle.ring_core.specs.declared.event.Event.{Event}
use Rattle.ring_core.specs.declared.answers.TakeNo.{TakeNo}
use Rattle.ring_core.specs.Core.{reached, stage}
use Rattle.ring_core.specs.Answers.{TakeRefused}

-- a take is refused here
pub record IsRefused (es : List Event) : Type 0 where
  pub why : TakeNo
  pub refused : TakeRefused (reached es) why

-- a cause is kept, or all n layers are claimed and a take is refused
abbrev pub IsOver : ℕ → List Event → Type 0
IsOver n es = IsSome (reached es).cause ⊎ ((reached es).claimed ≡ n) × IsRefused es

-- the worker w has ended: it doesn't hold the turn and has no layer in work, unless it halted and a cause is kept; and
-- there is nothing left to do
pub record Ended (n w : ℕ) (es : List Event) : Type 0 where
  pub turn : (stage w es).turn ≡ None
  pub work : (stage w es).halted ≡ false → (stage w es).work ≡ None
  pub halted : (stage w es).halted ≡ true → IsSome (reached es).cause
  pub over : IsOver n es
