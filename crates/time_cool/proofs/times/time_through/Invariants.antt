use Rattle.std.proofs.Common.{◌≡◌, ◌+◌, ◌*◌, ◌≤◌, drop}
use Rattle.slice_base.specs.Plane.{InSquare}
use Rattle.time_cool.specs.Times.{time_through}
use Rattle.time_cool.proofs.times.time_through.Given as goal

abbrev pub invariant-loop-q : goal.invariant-loop-q
invariant-loop-q l = record {
  at_in : InSquare 1700000 l.at;
  small : l.time ≤ l.q-index * 5656855000000;
  so_far : l.time + time_through l.speed l.at (drop l.q-index l.points) ≡ time_through l.speed l.fn.from l.points;
}
