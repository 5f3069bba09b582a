use Rattle.std.proofs.Common.{◌<◌, length, arith, get_or}
use Rattle.clip_bands.proofs.Blocks.{nothing, covers-first, covers-more, any-default}
use Rattle.clip_bands.proofs.bands.block_from.Goals as goal

pub loop-i-init : goal.loop-i-init
loop-i-init c = covers-first c.args.spans.now c.args.from c.requires

pub loop-i-preserved : goal.loop-i-preserved
loop-i-preserved c =
    let below : c.loop-i.i < length c.args.spans.now = omega (arith, c.min-i-end.ensures, c.loop-i-test.true) in
    covers-more c.args.spans.now c.args.from c.loop-i.i c.loop-i.hull c.both-hull.result (get_or c.args.spans.now c.loop-i.i nothing) c.loop-i.invariant c.both-hull.ensures.second (λ d. any-default c.args.spans.now c.loop-i.i nothing d below) c.both-hull.ensures.grows

pub returns : goal.returns
returns c i d le lt below = c.loop-i.invariant i d le (omega (arith, c.min-i-end.ensures, c.loop-i-test.false))
