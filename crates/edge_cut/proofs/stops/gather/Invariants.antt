use Rattle.std.proofs.Common.{◌≡◌, ◌≤◌, ◌+◌, ◌++◌, drop, length, map}
use Rattle.edge_cut.specs.Stops.{stop_at}
use Rattle.edge_cut.specs.Inner.Gathered.{gathered_at}
use Rattle.edge_cut.proofs.stops.gather.Given as goal

abbrev pub invariant-loop-meeting : goal.invariant-loop-meeting
invariant-loop-meeting l = record {
  few : length l.stops.items ≤ l.meeting-index + 2;
  so_far : l.stops.items ++ map (λ m. stop_at l.e m.at) (drop l.meeting-index l.some) ≡ gathered_at l.e l.some;
}
