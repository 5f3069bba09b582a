use Rattle.std.proofs.Common.{◌≡◌, ◌++◌, ◌∙◌, List, length, take, drop, true, ap}
use Rattle.plan_types.specs.declared.plans.ExtruderPlan.{ExtruderPlan}
use Rattle.plan_types.specs.Leads.{timed_plans}
use Rattle.plan_store.proofs.Timed.{came_back, still_plan}
use Rattle.plan_store.proofs.leading.with_lead.Goals as goal

pub invariant_of-plan : goal.invariant_of-plan
invariant_of-plan c =
    let now = c.plan.inside.plans in
    let new = c.time_plans.new.plans in
    let t = c.from.result in
    let is : new ≡ timed_plans true t now = c.time_plans.ensures.exact ∙ ap (λ (xs : List ExtruderPlan). timed_plans true t xs) c.items_mut.ensures.value in
    still_plan true t now (take (length now) (new ++ drop (length new) now)) (came_back true t now new is) c.plan.invariant
