use Rattle.std.proofs.Common.{◌≡◌, ◌+◌, ◌-◌, ◌≤◌, ◌++◌, length, take, drop, true}
use Rattle.std.specs.List.{sum_by}
use Rattle.plan_types.specs.declared.plans.ExtruderPlan.{ExtruderPlan}
use Rattle.plan_types.specs.Plans.{moves_in, time_in}
use Rattle.plan_types.specs.Leads.{timed_plans}
use Rattle.plan_store.proofs.leading.time_plans.Given as goal

abbrev pub invariant-plans : goal.invariant-plans
invariant-plans l = record {
  within : l.i ≤ length l.plans;
  so_far : take l.i l.plans ++ timed_plans l.first l.now (drop l.i l.plans) ≡ timed_plans true l.fn.lead l.fn.plans;
  time : l.now + time_in (drop l.i l.plans) ≡ l.fn.lead + time_in l.fn.plans;
  paths : sum_by (λ (x : ExtruderPlan). length x.paths) l.fn.plans + moves_in (drop l.i l.plans) ≤ moves_in l.fn.plans + sum_by (λ (x : ExtruderPlan). length x.paths) (drop l.i l.plans);
}

abbrev pub decreases-plans : goal.decreases-plans
decreases-plans l = length l.plans - l.i
