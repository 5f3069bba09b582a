use Rattle.std.proofs.Common.{◌≡◌, drop, None}
use Rattle.path_order.specs.Inner.Remaining.{nearest_left}
use Rattle.path_order.proofs.choices.nearest_left.Given as goal

abbrev pub invariant-loop-s : goal.invariant-loop-s
invariant-loop-s l = nearest_left l.gone l.at l.best (drop l.s-index l.starts) ≡ nearest_left l.gone l.at None l.starts
