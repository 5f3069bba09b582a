use Rattle.stitch_core.specs.Inner.Nearest.{IsFirst, AreNearest}
use Rattle.slice_base.specs.Shapes.{Loops}
use Rattle.stitch_core.proofs.Nearests.{Before}
use Rattle.stitch_core.proofs.nearest.Nearest.next.Given as goal

abbrev pub invariant-loop-gap : goal.invariant-loop-gap
invariant-loop-gap l = (slots : Loops) → AreNearest slots l.gap-items → IsFirst (Before l.gap-index) slots l.best
