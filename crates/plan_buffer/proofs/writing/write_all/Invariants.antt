use Rattle.std.proofs.Common.{◌≡◌, ◌+◌, ◌-◌, ◌≤◌, ℕ, length}
use Rattle.std.specs.List.{All}
use Rattle.preheat_plan.specs.Completed.{KnowsItsExtruders}
use Rattle.plan_buffer.specs.Accepted.{Past, HasWritten}
use Rattle.plan_buffer.specs.Streams.{WroteSome}
use Rattle.plan_buffer.proofs.writing.write_all.Given as goal

abbrev pub invariant-held : goal.invariant-held
invariant-held g l = record {
  known : All (KnowsItsExtruders (length l.writer.job.now.settings.extruders)) l.window.held.plans;
  all : (past : Past) (n : ℕ) → HasWritten g.S.Sink.output l.initial.writer.job.now past n l.initial.window.held l.initial.writer.progress l.initial.writer.pen → HasWritten g.S.Sink.output l.writer.job.now past (n + (length l.initial.window.held.plans - length l.window.held.plans)) l.window.held l.writer.progress l.writer.pen;
  some : WroteSome g.S.Sink.output l.initial.writer.pen l.writer.pen;
  job : l.writer.job.now ≡ l.initial.writer.job.now;
  fewer : length l.window.held.plans ≤ length l.initial.window.held.plans;
  layers : l.writer.layers + length l.window.held.plans ≡ l.initial.writer.layers + length l.initial.window.held.plans;
  taken : l.window.taken ≡ l.initial.window.taken;
}

abbrev pub decreases-held : goal.decreases-held
decreases-held g l = length l.window.held.plans
