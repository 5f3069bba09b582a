use Rattle.std.proofs.Common.{◌≡◌, ◌+◌, ◌*◌, ◌≤◌, drop}
use Rattle.slice_base.specs.Plane.{InSquare}
use Rattle.plan_types.specs.Plans.{length_through}
use Rattle.print_totals.proofs.amounts.length_through.Given as goal

abbrev pub invariant-loop-q : goal.invariant-loop-q
invariant-loop-q l = record {
  at_in : InSquare 1700000 l.at;
  small : l.way ≤ l.q-index * 5656855;
  so_far : l.way + length_through l.at (drop l.q-index l.points) ≡ length_through l.fn.from l.points;
}
