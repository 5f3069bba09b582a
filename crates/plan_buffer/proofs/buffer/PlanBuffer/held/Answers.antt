use Rattle.std.proofs.Common.{List, length, ap, ◌∙◌}
use Rattle.plan_types.specs.Plans.{LayerPlanValue}
use Rattle.plan_buffer.specs.Buffers.{BufferValue}
use Rattle.plan_buffer.proofs.Accepts.{held_least}
use Rattle.plan_buffer.proofs.buffer.PlanBuffer.held.Goals as goal

pub returns-clause-least : goal.returns-clause-least
returns-clause-least g c = λ past at.
    ap (λ (ls : List LayerPlanValue). length ls) c.plans.ensures.value ∙ ap (λ (b : BufferValue g.row.S.Denot). length b.window.held.plans) c.self.view_is ∙ held_least c.windows_follow.ensures g.S.Sink.output c.args.self.now past at
