use Rattle.std.proofs.Common.{◌≡◌, ◌++◌, drop, true}
use Rattle.slice_base.specs.Plane.{InSquare}
use Rattle.layer_plan.specs.Plan.{drawn_plans}
use Rattle.layer_plan.specs.Inner.Sound.{AreDrawn}
use Rattle.layer_plan.proofs.planning.drawn_plans.Given as goal

abbrev pub invariant-loop-e : goal.invariant-loop-e
invariant-loop-e l = record {
  at_in : InSquare 1700000 l.at;
  drawn : AreDrawn l.plans;
  so_far : l.plans ++ drawn_plans l.job l.sheet l.areas l.is_first l.at (drop l.e-index l.extruders) ≡ drawn_plans l.job l.sheet l.areas true l.fn.start l.extruders;
}
