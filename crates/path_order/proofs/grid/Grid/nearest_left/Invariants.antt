use Rattle.std.proofs.Common.{◌≤◌, ◌<◌, ◌-◌, ◌^◌}
use Rattle.path_order.proofs.grid.Grid.nearest_left.Given as goal

abbrev pub invariant-wider : goal.invariant-wider
invariant-wider l = record {
  some : 1 ≤ l.reach;
  small : l.reach < 2 ^ 22;
}

abbrev pub decreases-wider : goal.decreases-wider
decreases-wider l = 2 ^ 22 - l.reach
