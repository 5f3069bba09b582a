use Rattle.std.proofs.Common.{◌≡◌, ◌≤◌, ◌+◌, ◌*◌, ◌++◌, drop, length}
use Rattle.edge_cut.specs.Inner.Gathered.{meeting_stops, gathered}
use Rattle.edge_cut.proofs.stops.gather_each.Given as goal

abbrev pub invariant-loop-m : goal.invariant-loop-m
invariant-loop-m l = record {
  few : length l.stops.items ≤ 2 * l.m-index + 2;
  so_far : l.stops.items ++ meeting_stops l.e (drop l.m-index l.all) ≡ gathered l.e l.all;
}
