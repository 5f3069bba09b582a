use Rattle.std.proofs.Common.{◌≡◌, drop}
use Rattle.slice_base.specs.Plane.{InSquare}
use Rattle.plan_types.specs.Leads.{end_of_plans}
use Rattle.preheat_plan.proofs.leads.end_of_plans.Given as goal

abbrev pub invariant-loop-x : goal.invariant-loop-x
invariant-loop-x l = record {
  rest : end_of_plans l.end (drop l.x-index l.plans) ≡ end_of_plans l.initial.end l.plans;
  inside : InSquare 1700000 l.end;
}
