use Rattle.std.proofs.Common.{◌≤◌, length, arith}
use Rattle.stitch_core.proofs.Nearests.{first-none, first-more, first-whole}
use Rattle.stitch_core.proofs.nearest.find_nearest.Goals as goal

pub loop-to-init : goal.loop-to-init
loop-to-init c = first-none c.args.slots.now c.args.from

pub loop-to-preserved : goal.loop-to-preserved
loop-to-preserved c = rw c.earlier-best.ensures (first-more c.args.slots.now c.args.from c.loop-to.to c.loop-to.best c.gap_between.result c.gap_between.ensures c.loop-to.invariant)

pub returns : goal.returns
returns c =
    let past : length c.args.slots.now ≤ c.loop-to.to = omega arith in
    first-whole c.args.slots.now c.args.from c.loop-to.to c.loop-to.best past c.loop-to.invariant
