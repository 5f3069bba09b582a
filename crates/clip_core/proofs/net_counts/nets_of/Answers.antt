use Rattle.std.proofs.Common.{◌<◌, length, get_or, arith, ◌∙◌}
use Rattle.clip_core.specs.Windings.{none, plus}
use Rattle.clip_core.proofs.Lifts.{any-raise}
use Rattle.clip_core.proofs.Tallies.{nothing}
use Rattle.clip_core.proofs.Shares.{share-small}
use Rattle.clip_core.proofs.Finding.{nets-step}
use Rattle.clip_core.proofs.net_counts.nets_of.Goals as goal

pub index-requires : goal.index-requires
index-requires c =
    let at = c.requires.found c.loop-i.i nothing (omega (arith, c.loop-i-test.true, c.requires.count)) in
    omega (arith, at.within, c.loop-i.invariant.count)

pub loop-i-preserved : goal.loop-i-preserved
loop-i-preserved c =
    let i = c.loop-i.i in
    let all = c.args.all.now in
    let index = get_or c.args.indices.now i 0 in
    let at = c.requires.found i nothing (omega (arith, c.loop-i-test.true, c.requires.count)) in
    let inside : index < length c.loop-i.nets.items = omega (arith, at.within, c.loop-i.invariant.count) in
    let old = c.index.ensures ∙ any-raise c.loop-i.nets.items index c.index.result.now none inside in
    let sum = c.plus.ensures ∙ (λ j. plus (old j) (c.share.ensures.exact j)) in
    nets-step all c.args.bundles.now c.loop-i.nets.items i index c.plus.result c.requires.distinct (omega (arith, c.loop-i-test.true)) at (share-small (get_or all i nothing)) sum c.loop-i.invariant
