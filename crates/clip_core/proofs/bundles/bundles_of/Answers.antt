use Rattle.std.proofs.Common.{ℕ, List, [], subst, sym, arith}
use Rattle.clip_core.specs.Bundles.{bundles_of}
use Rattle.clip_core.specs.Inner.Found.{AreFound}
use Rattle.clip_core.proofs.Tallies.{nothing}
use Rattle.clip_core.proofs.Finding.{found-more, bundles-step}
use Rattle.clip_core.proofs.bundles.bundles_of.Goals as goal

pub loop-m-preserved : goal.loop-m-preserved
loop-m-preserved c =
    let h = c.loop-m.invariant in
    let all = c.args.all.now in
    let new = c.put_bundle.new.bundles.items in
    record {
      same = c.in_ok-index.ensures.same;
      so_far = bundles-step all c.loop-m.m-index c.loop-m.bundles.items new (bundles_of [] all) c.bundle_of.result nothing c.loop-m-test.true c.in_ok-index.ensures.ok c.bundle_of.ensures h.so_far;
      count = omega (arith, c.in_ok-push.ensures.len, h.count);
      found_all = subst (λ (ks : List ℕ). AreFound all new ks) (sym c.in_ok-push.ensures.items)
          (found-more all c.bundle_of.result c.loop-m.bundles.items new c.loop-m.indices.items c.in_ok-index.index c.loop-m.m-index nothing h.count c.loop-m-test.true c.in_ok-index.ensures.ok c.bundle_of.ensures c.in_ok-index.ensures.index h.found_all);
    }
