-- Feeders of a ring.
use Rattle.std.proofs.Common.{ℕ, ◌≡◌, ◌≤◌, ◌<◌, ◌+◌, ◌∷◌, [], ◌++◌, length, ◌∙◌, arith}
use Rattle.slice_base.specs.Shapes.{Bytes}
use Rattle.outside.specs.Output.{Output}
use Rattle.plan_types.specs.Jobs.{JobValue}
use Rattle.plan_types.specs.Plans.{LayerPlanValue}
use Rattle.layer_plan.specs.Plan.{plan_of}
use Rattle.plan_buffer.specs.Accepted.{Past, HasAccepted}
use Rattle.plan_buffer.specs.Buffers.{BufferValue}
use Rattle.slice_engine.specs.Inner.Feeding.{past_of}
use Rattle.slice_engine.specs.Inner.Ringing.{HasFed}
use Rattle.slice_engine.proofs.Streams.{fed_more, take_count}

-- nothing was fed yet
pub fed_none : {S : Type 0} (output : S → Output) (job : JobValue) (name : Bytes) (before : S) (buffer : BufferValue S) → buffer.job ≡ job → HasAccepted output buffer (past_of job name (output before) 0) → HasFed output job name before buffer
fed_none output job name before buffer same h = record { job_is = same; count = 0; few = omega arith; accepted = h }

-- one plan more was fed
pub fed_next : {S : Type 0} (output : S → Output) (job : JobValue) (name : Bytes) (before : S) (k : ℕ) (plan : LayerPlanValue) (old new : BufferValue S) → k < length job.layers → plan ≡ plan_of job k → old.job ≡ job → new.job ≡ old.job
    → ((past : Past) → HasAccepted output old past → HasAccepted output new (record past { plans = past.plans ++ plan ∷ [] })) → HasAccepted output old (past_of job name (output before) k) → HasFed output job name before new
fed_next output job name before k plan old new below is was same more h = record {
  job_is = same ∙ was;
  count = k + 1;
  few = omega (arith, below);
  accepted = fed_more output job name (output before) k plan old new below is more h;
}

-- as many plans were taken as layers were fed
pub taken_count : {S : Type 0} (output : S → Output) (job : JobValue) (name : Bytes) (before : Output) (k : ℕ) (buffer : BufferValue S) → k ≤ length job.layers → HasAccepted output buffer (past_of job name before k) → buffer.window.taken ≡ k
taken_count output job name before k buffer few h = h.taken ∙ take_count job k few
