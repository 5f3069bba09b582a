use Rattle.std.proofs.Common.{◌≡◌, ◌++◌, drop}
use Rattle.path_order.specs.Starts.{all_starts}
use Rattle.path_order.proofs.starts.all_starts.Given as goal

abbrev pub invariant-loop-i : goal.invariant-loop-i
invariant-loop-i l = l.starts.items ++ all_starts l.seam l.i (drop l.i l.pieces) ≡ all_starts l.seam 0 l.pieces
