-- A job's planner and consumer for a ring.
use Rattle.std.specs.Prelude.{ℕ, ◌≡◌, ◌≤◌, [], length}
use Rattle.std.specs.List.{All}
use Rattle.slice_base.specs.Shapes.{Bytes}
use Rattle.outside.specs.Output.{Output}
use Rattle.plan_types.specs.Jobs.{JobValue, Names}
use Rattle.plan_types.specs.Plans.{LayerPlanValue, EachOnce}
use Rattle.plan_buffer.specs.Accepted.{HasAccepted}
use Rattle.plan_buffer.specs.Buffers.{BufferValue}
use Rattle.print_totals.specs.declared.amounts.Amounts.{Amounts}
use Rattle.print_totals.specs.Spending.{SpentValue, amounts_of}
use Rattle.slice_engine.specs.Inner.Feeding.{past_of}

-- the plan of a layer, with its job
pub record PlannedValue : Type 0 where
  pub job : JobValue
  pub plan : LayerPlanValue

-- a plan names extruders of its job, each once at most, and has no preheat yet; its paths take these amounts
pub record IsPlanned (job : JobValue) (plan : LayerPlanValue) (amounts : Amounts) : Type 0 where
  pub known : All (Names job.settings) plan.plans
  pub once : EachOnce plan.plans
  pub bare : plan.inserts ≡ []
  pub amounts_are : amounts ≡ amounts_of plan

-- a feeder: its job, the name of the file, the sink before it was begun, the buffer, and the sums of its plans
pub record FeederValue (S : Type 0) : Type 0 where
  pub job : JobValue
  pub name : Bytes
  pub before : S
  pub buffer : BufferValue S
  pub spent : SpentValue

-- some plans of the job were accepted by its buffer, the last of them maybe with a failed write
pub record HasFed {S : Type 0} (output : S → Output) (job : JobValue) (name : Bytes) (before : S)
    (buffer : BufferValue S) : Type 0 where
  pub job_is : buffer.job ≡ job
  pub count : ℕ
  pub few : count ≤ length job.layers
  pub accepted : HasAccepted output buffer (past_of job name (output before) count)
