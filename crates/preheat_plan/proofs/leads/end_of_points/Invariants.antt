use Rattle.std.proofs.Common.{◌≡◌, drop}
use Rattle.slice_base.specs.Plane.{InSquare}
use Rattle.plan_types.specs.Leads.{end_of_points}
use Rattle.preheat_plan.proofs.leads.end_of_points.Given as goal

abbrev pub invariant-loop-p : goal.invariant-loop-p
invariant-loop-p l = record {
  rest : end_of_points l.end (drop l.p-index l.points) ≡ end_of_points l.initial.end l.points;
  inside : InSquare 1700000 l.end;
}
