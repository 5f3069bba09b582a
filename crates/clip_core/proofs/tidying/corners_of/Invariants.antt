use Rattle.std.proofs.Common.{◌≡◌, ◌++◌, drop}
use Rattle.clip_core.specs.Tidying.{corners_from, corners_of}
use Rattle.clip_core.proofs.tidying.corners_of.Given as goal

abbrev pub invariant-loop-q : goal.invariant-loop-q
invariant-loop-q l = l.corners ++ corners_from l.first l.a l.p (drop l.q-index l.q-items) ≡ corners_of l.points
