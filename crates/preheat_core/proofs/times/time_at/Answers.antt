use Rattle.std.proofs.Common.{◌≡◌, ◌+◌, ap, ◌∙◌, get_or}
use Rattle.plan_types.specs.Plans.{LayerPlanValue}
use Rattle.preheat_core.specs.Times.{times_in}
use Rattle.preheat_core.proofs.Added.{led_head}
use Rattle.preheat_core.proofs.times.time_at.Goals as goal

pub returns-then-path-eq0-clause-exact : goal.returns-then-path-eq0-clause-exact
returns-then-path-eq0-clause-exact c =
    let l = c.args.layer.now in
    let plans : c.items.result.now ≡ l.plans = c.items.ensures ∙ ap (λ (l : LayerPlanValue). l.plans) c.layer.view_is in
    ap (λ n. c.time_in-own.result + n) (ap (λ (l : LayerPlanValue). l.lead) c.layer.view_is)
    ∙ led_head l.lead l.plans c.args.path c.time_in-own.result c.if-path-eq0.true c.requires.path (c.time_in-own.ensures ∙ ap (λ xs. get_or (times_in xs) c.args.path 0) plans)
