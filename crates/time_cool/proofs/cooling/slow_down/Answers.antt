use Rattle.std.proofs.Common.{◌≡◌, ◌≤◌, ◌*◌, ◌^◌, List, ap, ◌∙◌}
use Rattle.plan_types.specs.declared.plans.ExtruderPlan.{ExtruderPlan}
use Rattle.time_cool.specs.Cooling.{cooled}
use Rattle.time_cool.proofs.Unmoved.{lent}
use Rattle.time_cool.proofs.cooling.slow_down.Goals as goal

pub invariant_of-plan : goal.invariant_of-plan
invariant_of-plan c =
    let s = c.args.settings.now in
    lent s c.plan.inside.plans c.cool.new.plans
    (c.cool.ensures.exact ∙ ap (λ (xs : List ExtruderPlan). cooled s xs) c.items_mut.ensures.value)
    c.plan.invariant c.cool.ensures.time
