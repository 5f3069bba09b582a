-- What holds once plans were accepted, and once the file is finished or broke off.
use Rattle.std.specs.Prelude.{ℕ, ◌-◌, ◌≡◌, ◌⊎◌, true, Some, List, length, take}
use Rattle.std.specs.List.{All}
use Rattle.slice_base.specs.Causes.{counted}
use Rattle.slice_base.specs.Shapes.{Bytes}
use Rattle.outside.specs.declared.pens.Pen.{Pen}
use Rattle.outside.specs.Holding.{HasLength, GainedFront, filled_of, emptied_of}
use Rattle.outside.specs.Output.{Output}
use Rattle.plan_types.specs.Jobs.{JobValue}
use Rattle.plan_types.specs.Plans.{LayerPlanValue}
use Rattle.gcode_write.specs.declared.progress.Progress.{Progress}
use Rattle.gcode_write.specs.Layers.{after_layers}
use Rattle.gcode_write.specs.Ends.{start_of}
use Rattle.preheat_plan.specs.Past.{rules_of}
use Rattle.preheat_plan.specs.Completed.{completed_of, IsFresh}
use Rattle.preheat_plan.specs.Held.{Held}
use Rattle.preheat_plan.specs.Follows.{Follows}
use Rattle.plan_buffer.specs.File.{text_up_to}
use Rattle.plan_buffer.specs.Streams.{Streamed}
use Rattle.plan_buffer.specs.Buffers.{BufferValue}

-- what was done before: the plans that were accepted, the name under which the sink was begun, and the sink
-- as it was before
pub record Past : Type 0 where
  pub plans : List LayerPlanValue
  pub name : Bytes
  pub before : Output

-- the first n of these plans were written, and the others are held
pub record HasWritten {S : Type 0} (output : S → Output) (job : JobValue) (past : Past) (n : ℕ) (held : Held)
    (progress : Progress) (pen : Pen S) : Type 0 where
  pub fresh : All IsFresh past.plans
  pub follows : Follows (rules_of job) past.plans n held
  pub stands : progress
      ≡ after_layers job.settings.extruders (start_of job) (take n (completed_of (rules_of job) past.plans))
  pub stream : Streamed output past.name (text_up_to job past.plans n) past.before pen

-- so many of these plans were accepted as there are, and all but the last window of them were written
pub record HasAccepted {S : Type 0} (output : S → Output) (buffer : BufferValue S) (past : Past) : Type 0 where
  pub taken : buffer.window.taken ≡ length past.plans
  pub written : HasWritten output buffer.job past
      (length past.plans - buffer.job.settings.preheat_window_layers) buffer.window.held buffer.progress buffer.pen

-- begun and ended once under this name, it holds exactly these bytes, all of them at its end
pub record Finished (name file : Bytes) (before after : Output) : Type 0 where
  pub content : after.content ≡ filled_of before.content file
  pub whole : HasLength after.content after.held_at_end
  pub named : after.name ≡ Some name
  pub begun : after.begun ≡ true
  pub begins : after.begins ≡ counted before.begins
  pub ends : after.ends ≡ counted before.ends
  pub quiet : after.faults ≡ before.faults

-- begun once under this name, and one call behind that failed: it holds a front of these bytes
pub record BrokeOff (name file : Bytes) (before after : Output) : Type 0 where
  pub front : GainedFront (emptied_of before.content) file after.content
  pub named : after.name ≡ Some name
  pub begun : after.begun ≡ true
  pub begins : after.begins ≡ counted before.begins
  pub ends : (after.ends ≡ before.ends) ⊎ (after.ends ≡ counted before.ends)
  pub failed_once : after.faults ≡ counted before.faults
