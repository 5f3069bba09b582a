use Rattle.std.proofs.Common.{◌≡◌, rules}
use Rattle.plan_types.specs.Leads.{origin}
use Rattle.preheat_plan.specs.Held.{nothing_held}
use Rattle.plan_store.specs.Windows.{WindowValue}
use Rattle.plan_buffer.proofs.Accepts.{at_start}
use Rattle.plan_buffer.proofs.buffer.PlanBuffer.make.Goals as goal

pub returns-clause-accepted : goal.returns-clause-accepted
returns-clause-accepted g c = λ name before stream stands.
    let w = c.args.writer in
    let start : WindowValue = record { held = nothing_held w.job.now.first origin; taken = 0 } in
    let is : c.new.result ≡ start = search rules in
    at_start c.windows_follow.ensures g.S.Sink.output w.job.now name before w.progress w.pen c.new.result w.layers is stream stands
