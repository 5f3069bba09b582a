use Rattle.std.proofs.Common.{◌<◌, length, get_or, ◌∙◌}
use Rattle.std.proofs.lemmas.List.{length-set}
use Rattle.clip_core.specs.Inner.Rays.{no_ray}
use Rattle.clip_core.proofs.Indexed.{put-edge}
use Rattle.clip_core.proofs.Shares.{any-default}
use Rattle.clip_core.proofs.keeping.edges_by_index.Goals as goal

pub loop-ray-preserved : goal.loop-ray-preserved
loop-ray-preserved c =
    let i = c.loop-ray.ray-index in
    let rays = c.args.rays.now in
    let below : i < length rays = c.loop-ray-test.true in
    let r = get_or rays i no_ray in
    let h = c.loop-ray.invariant in
    record {
      count = length-set c.loop-ray.slots.items r.index c.kept_edge.result ∙ h.count;
      so_far = put-edge c.args.operation c.args.all.now c.args.bundles.now c.loop-ray.slots.items rays i r c.kept_edge.result (c.requires.told i no_ray below) (λ d. any-default rays i d no_ray below) h.count c.kept_edge.ensures h.so_far;
    }
