-- What a worker does next.
use Rattle.std.specs.Prelude.{ℕ, ◌≡◌, Some}
use Rattle.ring_core.specs.declared.answers.Taken.{Taken}
use Rattle.layer_ring.specs.declared.step.Step.{Step}
use Rattle.layer_ring.specs.declared.step.Step.TheVariants.{Plan, Feed, Pause, End}
use Rattle.turn_lock.specs.Events.{GrewBy}
use Rattle.ring_core.specs.Core.{who, Stage, stage, resting}
use Rattle.ring_core.specs.Sees.{Ring}

-- the ring has the same name, grew by the worker w's events alone, and w is then at this stage
pub record Worked {N : Type 0} (w : ℕ) (r s : Ring N) (at : Stage) : Type 0 where
  pub same : s ≡ record r { events = s.events }
  pub grew : GrewBy who w r.events s.events
  pub at_is : stage w s.events ≡ at

module _ {A C : Type 0} where
  -- what a worker is at when it is told to do this
  abbrev pub stage_of : Step A C → Stage
  stage_of (Plan l) = record resting { work = Some l }
  stage_of (Feed t) = record resting { turn = Some t.layer }
  stage_of Pause = resting
  stage_of End = resting

  -- where it is to plan a layer, this holds of the layer
  abbrev pub IfPlan : Step A C → (ℕ → Type 0) → Type 0
  IfPlan (Plan l) F = F l
  IfPlan _ F = Unit {0}

  -- where it is to feed a plan that was taken, this holds of it
  abbrev pub IfFeed : Step A C → (Taken A C → Type 0) → Type 0
  IfFeed (Feed t) F = F t
  IfFeed _ F = Unit {0}

  -- where it is to end, this holds
  abbrev pub IfEnd : Step A C → Type 0 → Type 0
  IfEnd End F = F
  IfEnd _ F = Unit {0}
