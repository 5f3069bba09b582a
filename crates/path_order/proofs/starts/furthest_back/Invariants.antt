use Rattle.std.proofs.Common.{◌≡◌, drop, None}
use Rattle.path_order.specs.Starts.{furthest_back, starts_at}
use Rattle.path_order.proofs.starts.furthest_back.Given as goal

abbrev pub invariant-loop-i : goal.invariant-loop-i
invariant-loop-i l = furthest_back l.best (starts_at l.piece l.i (drop l.i l.points)) ≡ furthest_back None (starts_at l.piece 0 l.points)
