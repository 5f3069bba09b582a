use Rattle.std.proofs.Common.{◌≡◌, ◌++◌, drop}
use Rattle.path_order.specs.Inner.Remaining.{remaining}
use Rattle.path_order.proofs.grid.remaining.Given as goal

abbrev pub invariant-loop-s : goal.invariant-loop-s
invariant-loop-s l = l.kept.items ++ remaining l.gone (drop l.s-index l.starts) ≡ remaining l.gone l.starts
