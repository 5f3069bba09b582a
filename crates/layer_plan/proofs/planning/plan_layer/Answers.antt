use Rattle.std.proofs.Common.{◌≡◌, List, ap}
use Rattle.plan_types.specs.Plans.{LayerPlanValue as LayerPlan}
use Rattle.plan_types.specs.declared.plans.ExtruderPlan.{ExtruderPlan}
use Rattle.layer_plan.proofs.Extruders.{cooled-once}
use Rattle.layer_plan.proofs.planning.plan_layer.Goals as goal

pub returns-clause-once : goal.returns-clause-once
returns-clause-once c =
    cooled-once c.job.inside.settings c.in_ok-plan.plan.plans c.slow_down.new.plan.plans
    (ap (λ (l : LayerPlan). let xs : List ExtruderPlan = l.plans in xs) c.slow_down.ensures.exact) c.in_ok-plan.ensures.once
