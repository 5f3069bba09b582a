use Rattle.std.proofs.Common.{None}
use Rattle.stitch_core.proofs.Nearests.{all-next}
use Rattle.stitch_core.proofs.nearest.Nearest.next.Goals as goal

pub loop-gap-preserved : goal.loop-gap-preserved
loop-gap-preserved c = λ slots h. all-next slots c.deref-gap-items.result.now c.loop-gap.gap-index c.loop-gap.best None c.earlier-best.result c.earlier-best.ensures c.loop-gap-test.true h (c.loop-gap.invariant slots h)
