use Rattle.std.proofs.Common.{◌≡◌, drop}
use Rattle.slice_base.specs.Plane.{InSquare}
use Rattle.plan_types.specs.Leads.{end_of_paths}
use Rattle.preheat_plan.proofs.leads.end_of_paths.Given as goal

abbrev pub invariant-loop-path : goal.invariant-loop-path
invariant-loop-path l = record {
  rest : end_of_paths l.end (drop l.path-index l.paths) ≡ end_of_paths l.initial.end l.paths;
  inside : InSquare 1700000 l.end;
}
