use Rattle.std.proofs.Common.{◌≡◌, false, take}
use Rattle.slice_base.specs.Shapes.{Bytes}
use Rattle.outside.specs.Output.{Output}
use Rattle.plan_buffer.specs.Accepted.{HasAccepted}
use Rattle.print_totals.specs.Spending.{HasSpent}
use Rattle.slice_engine.specs.Files.{plans_of}
use Rattle.slice_engine.specs.Inner.Feeding.{past_of}
use Rattle.slice_engine.proofs.writing.feed.Given as goal

abbrev pub invariant-layers : goal.invariant-layers
invariant-layers g l = record {
  job : l.buffer.job ≡ l.job;
  taken : l.buffer.window.taken ≡ l.layer;
  unfailed : l.buffer.pen.failed ≡ false;
  spent : HasSpent l.job (take l.layer (plans_of l.job)) l.spent;
  accepted : (name : Bytes) (before : Output) → HasAccepted g.S.Sink.output l.initial.buffer (past_of l.job name before 0) → HasAccepted g.S.Sink.output l.buffer (past_of l.job name before l.layer);
}
