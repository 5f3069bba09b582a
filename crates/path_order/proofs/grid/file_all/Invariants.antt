use Rattle.std.proofs.Common.{◌≡◌, length}
use Rattle.path_order.specs.Inner.Squares.{AreFiled}
use Rattle.path_order.proofs.grid.file_all.Given as goal

abbrev pub invariant-loop-i : goal.invariant-loop-i
invariant-loop-i l = record {
  same : length l.squares ≡ length l.fn.squares;
  filed : AreFiled l.starts l.side l.squares l.i;
}
