use Rattle.std.proofs.Common.{◌≡◌, ap, ◌∙◌, get_or}
use Rattle.plan_types.specs.Plans.{LayerPlanValue}
use Rattle.preheat_core.specs.Inner.Befores.{befores_in}
use Rattle.preheat_core.proofs.Added.{before_is}
use Rattle.preheat_core.proofs.times.before_at.Goals as goal

pub returns : goal.returns
returns c =
    let plans : c.items.result.now ≡ c.args.layer.now.plans = c.items.ensures ∙ ap (λ (l : LayerPlanValue). l.plans) c.layer.view_is in
    c.before_in.ensures ∙ ap (λ xs. get_or (befores_in xs) c.args.path 0) plans ∙ before_is c.args.layer.now c.args.path c.requires.path c.requires.timed
