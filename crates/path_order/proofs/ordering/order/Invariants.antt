use Rattle.std.proofs.Common.{◌≡◌, ◌≤◌, ◌-◌, ◌++◌, length}
use Rattle.path_order.specs.Inner.Remaining.{Known, remaining}
use Rattle.path_order.specs.Order.{visits_in, order_of}
use Rattle.path_order.specs.Inner.Squares.{IsGrid}
use Rattle.path_order.proofs.ordering.order.Given as goal

abbrev pub invariant-visit : goal.invariant-visit
invariant-visit l = record {
  within : length l.visits.items ≤ length l.pieces;
  marks : length l.gone ≡ length l.pieces;
  grid : IsGrid l.grid;
  known : Known (length l.pieces) l.grid.starts.items;
  so_far : l.visits.items ++ visits_in (length l.pieces - length l.visits.items) l.pieces l.at (remaining l.gone l.grid.starts.items) ≡ order_of l.pieces l.fn.from l.fn.seam;
}

abbrev pub decreases-visit : goal.decreases-visit
decreases-visit l = length l.pieces - length l.visits.items
