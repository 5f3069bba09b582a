-- What the workers of a slice did, and what the output holds of it.
use Rattle.std.specs.Prelude.{ℕ, ◌≡◌, ◌⊎◌, true, List, [], length, Some, None}
use Rattle.slice_base.specs.Causes.{Rose, counted}
use Rattle.slice_base.specs.Shapes.{Bytes}
use Rattle.outside.specs.Holding.{GainedFront, emptied_of}
use Rattle.outside.specs.Output.{Output}
use Rattle.plan_types.specs.Jobs.{JobValue}
use Rattle.ring_core.specs.declared.event.Event.{Event}
use Rattle.ring_core.specs.declared.event.Cause.TheVariants.{Memory, Write}
use Rattle.ring_core.specs.Core.{IsRun, reached}
use Rattle.ring_core.specs.Laws.{backs, IsWhole}
use Rattle.gcode_write.specs.Ends.{header_of}
use Rattle.gcode_write.specs.Writing.{HoldsFront}
use Rattle.slice_engine.specs.Files.{job_file, CutShort}

-- a run that took all n layers: nobody is in turn and no cause is kept at its end, each layer was claimed, placed,
-- taken
-- and given back once, in rising order but for the placements
pub record IsFullRun (n workers : ℕ) (journal : List Event) : Type 0 where
  pub run : IsRun n workers journal
  pub taken : (reached journal).taken ≡ n
  pub free : (reached journal).holder ≡ None
  pub calm : (reached journal).cause ≡ None
  pub whole : IsWhole n journal

-- a run in which the output failed: before the first event, as the output was begun or took the header; at the layer at
-- which a worker halted with the count of faults that the output has, first of all causes; or behind all layers
pub record RanToFailure (job : JobValue) (workers : ℕ) (journal : List Event) (before after : Output) : Type 0 where
  pub run : IsRun (length job.layers) workers journal
  pub cause : ((journal ≡ []) × HoldsFront after.begun (header_of job) before after)
      ⊎ (((reached journal).cause ≡ Some (Write after.faults)) ⊎ IsFullRun (length job.layers) workers journal)

-- a run in which memory ran out: before the first event, or where a worker halted for that, first of all causes
pub record RanOutOfMemory (n workers : ℕ) (journal : List Event) : Type 0 where
  pub run : IsRun n workers journal
  pub cause : (journal ≡ []) ⊎ ((reached journal).cause ≡ Some Memory)

-- memory ran out while workers planned: the output was begun once, under this name, and not ended; it holds a front of
-- the file, and, unless a write failed too, exactly what is written once the plans that were given back were accepted
pub record CutShortWide (name : Bytes) (job : JobValue) (journal : List Event) (before after : Output) : Type 0 where
  pub front : GainedFront (emptied_of before.content) (job_file job) after.content
  pub named : after.name ≡ Some name
  pub begun : after.begun ≡ true
  pub begins : after.begins ≡ counted before.begins
  pub ends : after.ends ≡ before.ends
  pub faults : (after.faults ≡ before.faults) ⊎ (after.faults ≡ counted before.faults)
  pub exact : (Rose before.faults after.faults → ⊥) → CutShort name job (length (backs journal)) before after
