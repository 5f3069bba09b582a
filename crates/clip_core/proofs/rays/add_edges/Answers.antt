use Rattle.std.proofs.Common.{◌*◌, ◌+◌, ◌^◌, get_or, refl, arith, ◌∙◌}
use Rattle.clip_core.specs.Inner.Raises.{ray_at}
use Rattle.clip_core.proofs.Shares.{so_far-step, still-rising, still-keyed, share-small}
use Rattle.clip_core.proofs.Tallies.{nothing}
use Rattle.clip_core.proofs.Begun.{firsts-stay}
use Rattle.clip_core.proofs.Stretches.{all-wider, edges-begin, edges-small}
use Rattle.clip_core.proofs.rays.add_edges.Goals as goal

pub loop-m-init : goal.loop-m-init
loop-m-init c =
    record {
      count = refl;
      raises_count = refl;
      so_far = edges-begin c.args.all.now c.args.rays.now.items c.args.raises.now.items c.requires.bare c.requires.flat;
      small = edges-small c.args.rays.now.items c.args.raises.now.items c.requires.bare c.requires.flat;
    }

pub loop-m-preserved : goal.loop-m-preserved
loop-m-preserved c =
    let h = c.loop-m.invariant in
    let rays = c.loop-m.rays.items in
    let raises = c.loop-m.raises.items in
    let new = c.add_edge.new.rays.items in
    let news = c.add_edge.new.raises.items in
    record {
      count = c.add_edge.ensures.count ∙ h.count;
      raises_count = c.add_edge.ensures.raises_count ∙ h.raises_count;
      so_far = λ k d below.
          so_far-step c.args.all.now c.loop-m.m-index (get_or c.args.rays.now.items k d) (ray_at rays raises k d) (ray_at new news k d) c.loop-m-test.true (share-small (get_or c.args.all.now c.loop-m.m-index nothing)) (c.add_edge.ensures.exact k d below) (h.so_far k d (omega (arith, c.add_edge.ensures.count, below)));
      small = all-wider (100000 * c.loop-m.m-index + 100000) (100000 * (c.loop-m.m-index + 1)) new news (omega arith) (c.add_edge.ensures.small (100000 * c.loop-m.m-index) h.small);
    }

pub add_edge-requires-clause-starts : goal.add_edge-requires-clause-starts
add_edge-requires-clause-starts c =
    let h = c.loop-m.invariant in
    firsts-stay c.args.starts.now.base c.args.starts.now.firsts.items c.args.rays.now.items c.loop-m.rays.items h.count (λ k d below. (h.so_far k d below).key) c.requires.starts

pub add_edge-requires-clause-rising : goal.add_edge-requires-clause-rising
add_edge-requires-clause-rising c =
    let h = c.loop-m.invariant in
    still-rising c.args.rays.now.items c.loop-m.rays.items h.count (λ k d below. (h.so_far k d below).key) c.requires.rising

pub add_edge-requires-clause-keyed : goal.add_edge-requires-clause-keyed
add_edge-requires-clause-keyed c =
    let h = c.loop-m.invariant in
    still-keyed c.args.bits c.args.rays.now.items c.loop-m.rays.items h.count (λ k d below. (h.so_far k d below).key) (λ k d below. (h.so_far k d below).bundle) c.requires.keyed

pub add_edge-requires-clause-small : goal.add_edge-requires-clause-small
add_edge-requires-clause-small c =
    let h = c.loop-m.invariant in
    all-wider (100000 * c.loop-m.m-index) (2 ^ 60) c.loop-m.rays.items c.loop-m.raises.items (omega (arith, c.loop-m-test.true, c.requires.few)) h.small
