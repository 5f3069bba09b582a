use Rattle.stitch_core.specs.Inner.Nearest.{IsFirst}
use Rattle.stitch_core.proofs.Nearests.{FromBefore}
use Rattle.stitch_core.proofs.nearest.find_nearest.Given as goal

abbrev pub invariant-loop-to : goal.invariant-loop-to
invariant-loop-to l = IsFirst (FromBefore l.from l.to) l.slots l.best
