use Rattle.std.proofs.Common.{◌≡◌, ◌++◌, drop}
use Rattle.offset_core.specs.Corners.{apart_from, apart_of}
use Rattle.offset_core.proofs.loops.apart.Given as goal

abbrev pub invariant-loop-p : goal.invariant-loop-p
invariant-loop-p l = l.apart ++ apart_from l.a (drop l.p-index l.points) ≡ apart_of l.points
