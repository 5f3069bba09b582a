-- A buffer that is fed the plans of a job.
use Rattle.std.specs.Prelude.{ℕ, ◌≡◌, ◌≤◌, true, false, take, length, Option, Some, None, Result, Ok, Err}
use Rattle.slice_base.specs.Shapes.{Bytes}
use Rattle.outside.specs.Output.{Output}
use Rattle.answers.specs.declared.refusal.Refusal.{Refusal}
use Rattle.answers.specs.declared.refusal.Refusal.TheVariants as refusal
use Rattle.ring_core.specs.declared.event.Cause.{Cause}
use Rattle.ring_core.specs.declared.event.Cause.TheVariants as cause
use Rattle.plan_types.specs.Jobs.{JobValue}
use Rattle.plan_buffer.specs.File.{file_of}
use Rattle.plan_buffer.specs.Accepted.{Past, HasAccepted, Finished, BrokeOff}
use Rattle.plan_buffer.specs.Buffers.{BufferValue}
use Rattle.slice_engine.specs.declared.writing.Stop.{Stop}
use Rattle.slice_engine.specs.declared.writing.Stop.TheVariants.{Memory, Write}
use Rattle.slice_engine.specs.Files.{plans_of, job_file, BrokenOff, CutShort}

-- the first k plans were accepted, behind a begin under this name
abbrev pub past_of : JobValue → Bytes → Output → ℕ → Past
past_of job name before k = record { plans = take k (plans_of job); name = name; before = before }

-- how a result that is a stop or none goes with whether the pen failed, and with how many plans were accepted
pub record Fed {S : Type 0} (output : S → Output) (job : JobValue) (name : Bytes) (before : Output)
    (result : Result (Unit {0}) Stop) (buffer : BufferValue S) : Type 0 where
  pub count : ℕ
  pub few : count ≤ length job.layers
  pub accepted : HasAccepted output buffer (past_of job name before count)
  pub all : result ≡ Ok tt → count ≡ length job.layers
  pub short : result ≡ Err Memory → buffer.pen.failed ≡ false
  pub broken : result ≡ Err Write → buffer.pen.failed ≡ true

-- what an output holds once a file was written, or the work stopped
abbrev pub Wrote : Result (Unit {0}) Stop → JobValue → Bytes → Output → Output → Type 0
Wrote (Ok t) job name before after = Finished name (job_file job) before after
Wrote (Err Write) job name before after = BrokenOff name (job_file job) before after
Wrote (Err Memory) job name before after = (k : ℕ) × CutShort name job k before after

-- the refusal that tells why a file wasn't written to its end
abbrev pub stop_refusal : Stop → Refusal
stop_refusal Memory = refusal.NoMemory
stop_refusal Write = refusal.WriteFault

-- what an output holds once a buffer was flushed whose past this is
abbrev pub Flushed : {S : Type 0} → (S → Output) → JobValue → Past → Result (Unit {0}) Stop → S → Type 0
Flushed output job past (Ok t) sink = Finished past.name (file_of job past.plans) past.before (output sink)
Flushed output job past (Err Write) sink = BrokeOff past.name (file_of job past.plans) past.before (output sink)
Flushed output job past (Err Memory) sink = ⊥

-- whether the plans were all fed, by the cause that a ring kept
abbrev pub fed_by : Option Cause → Result (Unit {0}) Stop
fed_by None = Ok tt
fed_by (Some cause.Memory) = Err Memory
fed_by (Some (cause.Write faults)) = Err Write
