-- A file that many workers planned.
use Rattle.std.specs.Prelude.{ℕ, List, length, Result, Ok, Err}
use Rattle.slice_base.specs.Shapes.{Bytes}
use Rattle.outside.specs.Output.{Output}
use Rattle.plan_types.specs.Jobs.{JobValue}
use Rattle.plan_buffer.specs.Accepted.{Finished}
use Rattle.ring_core.specs.declared.event.Event.{Event}
use Rattle.slice_engine.specs.declared.writing.Stop.{Stop}
use Rattle.slice_engine.specs.declared.writing.Stop.TheVariants.{Memory, Write}
use Rattle.slice_engine.specs.Files.{job_file, BrokenOff}
use Rattle.slice_engine.specs.Journals.{IsFullRun, RanToFailure, RanOutOfMemory, CutShortWide}

-- what the workers did and the output holds, once a file was written or the work stopped
abbrev pub WroteWide : Result (Unit {0}) Stop → List Event → JobValue → ℕ → Bytes → Output → Output → Type 0
WroteWide (Ok t) journal job workers name before after =
    IsFullRun (length job.layers) workers journal × Finished name (job_file job) before after
WroteWide (Err Write) journal job workers name before after =
    RanToFailure job workers journal before after × BrokenOff name (job_file job) before after
WroteWide (Err Memory) journal job workers name before after =
    RanOutOfMemory (length job.layers) workers journal × CutShortWide name job journal before after
