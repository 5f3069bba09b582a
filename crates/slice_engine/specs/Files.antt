-- The file of a job, and what an output holds of it.
use Rattle.std.specs.Prelude.{ℕ, ◌≡◌, ◌≤◌, ◌⊎◌, true, Some, List, map, length}
use Rattle.std.specs.List.{range_with_len}
use Rattle.slice_base.specs.Causes.{counted}
use Rattle.slice_base.specs.Shapes.{Bytes}
use Rattle.outside.specs.Holding.{filled_of}
use Rattle.outside.specs.Output.{Output}
use Rattle.plan_types.specs.Jobs.{JobValue}
use Rattle.plan_types.specs.Plans.{LayerPlanValue}
use Rattle.layer_plan.specs.Plan.{plan_of}
use Rattle.gcode_write.specs.Writing.{HoldsFront}
use Rattle.plan_buffer.specs.File.{file_of, written_of}

-- the plans of all layers, from the lowest up: each a function of the job and its number alone
abbrev pub plans_of : JobValue → List LayerPlanValue
plans_of job = map (plan_of job) (range_with_len 0 (length job.layers))

-- the whole file
unfoldable pub job_file : JobValue → Bytes
job_file job = file_of job (plans_of job)

-- what is written once k plans were accepted: the header, and all layers but the last window of them
unfoldable pub job_text : JobValue → ℕ → Bytes
job_text job k = written_of job (plans_of job) k

-- it failed once: it was begun once, under this name, ended at most once, and holds a front of these bytes or, where
-- its begin failed, what it held before or nothing
pub record BrokenOff (name file : Bytes) (before after : Output) : Type 0 where
  pub content : HoldsFront after.begun file before after
  pub named : after.name ≡ Some name
  pub begins : after.begins ≡ counted before.begins
  pub ends : (after.ends ≡ before.ends) ⊎ (after.ends ≡ counted before.ends)
  pub failed_once : after.faults ≡ counted before.faults

-- memory ran out behind its begin: it was begun once, under this name, holds exactly what is written once k plans
-- were accepted, and didn't fail
pub record CutShort (name : Bytes) (job : JobValue) (k : ℕ) (before after : Output) : Type 0 where
  pub few : k ≤ length job.layers
  pub content : after.content ≡ filled_of before.content (job_text job k)
  pub named : after.name ≡ Some name
  pub begun : after.begun ≡ true
  pub begins : after.begins ≡ counted before.begins
  pub ends : after.ends ≡ before.ends
  pub quiet : after.faults ≡ before.faults
