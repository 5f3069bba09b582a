use Rattle.std.proofs.Common.{◌≡◌, ◌<◌, ◌+◌, ◌^◌, ◌+ℤ◌, ℕ, List, length, get_or, arith, ◌∙◌, sym, ap, false, refl, subst}
use Rattle.clip_core.specs.declared.bundles.Bundle.{Bundle}
use Rattle.clip_core.specs.declared.windings.Windings.{Windings}
use Rattle.clip_core.specs.declared.rays.Ray.{Ray}
use Rattle.clip_core.specs.Bundles.{bundle_of}
use Rattle.clip_core.specs.Windings.{share_of}
use Rattle.std.specs.List.{All}
use Rattle.clip_core.specs.Inner.Rays.{is_up_to, strip_of, IsKeyed}
use Rattle.clip_core.specs.Inner.Raises.{AreWith}
use Rattle.clip_core.proofs.Stretches.{all-wider, level-with, adds-under, adds-both, adds-key, adds-keyed, adds-past, adds-whole, whole-small}
use Rattle.clip_core.proofs.Begun.{firsts-stay}
use Rattle.clip_core.proofs.Shares.{still-rising}
use Rattle.clip_core.proofs.rays.add_edge.Goals as goal

as-marked : (f g : Bundle) (s t : Windings) (rays new : List Ray) (raises news : List Windings) → f ≡ g → s ≡ t → AreWith f s rays raises new news → AreWith g t rays raises new news
as-marked f g s t rays new raises news e h a = subst (λ (b : Bundle). AreWith b t rays raises new news) e (subst (λ (w : Windings). AreWith f w rays raises new news) h a)

pub returns-then-is_level : goal.returns-then-is_level
returns-then-is_level c =
    let rays = c.args.rays.now.items in
    let raises = c.args.raises.now.items in
    let m = c.member_of-member.result in
    record {
      count = refl;
      raises_count = refl;
      exact = as-marked m.slope.ends (bundle_of c.args.m.edge) m.share (share_of c.args.m) rays rays raises raises c.member_of-member.ensures.ends c.member_of-member.ensures.share (level-with m.slope.ends m.share rays raises (sym c.is_level.ensures ∙ c.if-is_level.true));
      small = λ n a. all-wider n (n + 100000) rays raises (omega arith) a;
    }

pub walk-init : goal.walk-init
walk-init c =
    let rays = c.args.rays.now.items in
    let m = c.member_of-member.result in
    let first = c.first_up-i.ensures rays c.requires.starts in
    record {
      within = first.within;
      adds = adds-under m.slope.ends m.share c.args.bits m.first c.first_up-i.result rays c.args.raises.now.items (c.member_of-member.ensures.is.first ∙ ap (λ (n : ℕ). strip_of n (m.slope.ends.low.y +ℤ m.slope.ends.low.y)) c.member_of-member.ensures.bits) c.requires.keyed first.before;
    }

pub walk-preserved : goal.walk-preserved
walk-preserved c =
    let h = c.walk.invariant in
    let m = c.member_of-member.result in
    record {
      within = c.add_from-i.ensures.within;
      adds = adds-both m.slope.ends m.share 0 c.walk.i c.add_from-i.result c.args.rays.now.items c.walk.rays.items c.add_from-i.new.rays.items c.args.raises.now.items c.walk.raises.items c.add_from-i.new.raises.items (omega arith) (omega (arith, c.add_from-i.ensures.later)) h.adds c.add_from-i.ensures.exact;
    }

pub add_from-i-requires-clause-starts : goal.add_from-i-requires-clause-starts
add_from-i-requires-clause-starts c =
    let h = c.walk.invariant in
    let m = c.member_of-member.result in
    firsts-stay c.args.starts.now.base c.args.starts.now.firsts.items c.args.rays.now.items c.walk.rays.items h.adds.count (λ k d below. adds-key m.slope.ends m.share 0 c.walk.i c.args.rays.now.items c.walk.rays.items c.args.raises.now.items c.walk.raises.items h.adds k d (omega (arith, h.adds.count, below))) c.requires.starts

pub add_from-i-requires-clause-rising : goal.add_from-i-requires-clause-rising
add_from-i-requires-clause-rising c =
    let h = c.walk.invariant in
    let m = c.member_of-member.result in
    still-rising c.args.rays.now.items c.walk.rays.items h.adds.count (λ k d below. adds-key m.slope.ends m.share 0 c.walk.i c.args.rays.now.items c.walk.rays.items c.args.raises.now.items c.walk.raises.items h.adds k d (omega (arith, h.adds.count, below))) c.requires.rising

pub add_from-i-requires-clause-keyed : goal.add_from-i-requires-clause-keyed
add_from-i-requires-clause-keyed c =
    let h = c.walk.invariant in
    let m = c.member_of-member.result in
    subst (λ (n : ℕ). All (IsKeyed n) c.walk.rays.items) (sym c.member_of-member.ensures.bits)
    (adds-keyed c.args.bits m.slope.ends m.share 0 c.walk.i c.args.rays.now.items c.walk.rays.items c.args.raises.now.items c.walk.raises.items h.adds c.requires.keyed)

pub add_from-i-requires-clause-small : goal.add_from-i-requires-clause-small
add_from-i-requires-clause-small c = c.walk.invariant.adds.small (2 ^ 60) c.requires.small

pub returns-else-is_up_to : goal.returns-else-is_up_to
returns-else-is_up_to c =
    let h = c.walk.invariant in
    let m = c.member_of-member.result in
    let rays = c.args.rays.now.items in
    let raises = c.args.raises.now.items in
    let below : c.walk.i < length c.walk.rays.items = omega (arith, c.walk-test.true, c.len.ensures) in
    let over : is_up_to m.last (get_or c.walk.rays.items c.walk.i c.index.result.now) ≡ false = ap (λ (r : Ray). is_up_to m.last r) (sym c.index.ensures) ∙ (sym c.is_up_to.ensures ∙ c.if-is_up_to.false) in
    record {
      count = h.adds.count;
      raises_count = h.adds.raises_count;
      exact = as-marked m.slope.ends (bundle_of c.args.m.edge) m.share (share_of c.args.m) rays c.walk.rays.items raises c.walk.raises.items c.member_of-member.ensures.ends c.member_of-member.ensures.share
          (adds-whole m.slope.ends m.share c.args.bits m.last c.walk.i rays c.walk.rays.items raises c.walk.raises.items (c.member_of-member.ensures.is.last ∙ ap (λ (n : ℕ). strip_of n (m.slope.ends.high.y +ℤ m.slope.ends.high.y)) c.member_of-member.ensures.bits) c.requires.keyed h.adds (adds-past m.slope.ends m.share m.last c.walk.i rays c.walk.rays.items raises c.walk.raises.items c.index.result.now c.requires.rising h.adds below over));
      small = λ n a. whole-small n c.walk.i m.slope.ends m.share rays c.walk.rays.items raises c.walk.raises.items h.adds (omega (arith, c.requires.few, h.adds.count, h.within)) a;
    }

pub returns-after-walk-clause-exact : goal.returns-after-walk-clause-exact
returns-after-walk-clause-exact c =
    let h = c.walk.invariant in
    let m = c.member_of-member.result in
    let rays = c.args.rays.now.items in
    let raises = c.args.raises.now.items in
    as-marked m.slope.ends (bundle_of c.args.m.edge) m.share (share_of c.args.m) rays c.walk.rays.items raises c.walk.raises.items c.member_of-member.ensures.ends c.member_of-member.ensures.share
    (λ k d lt. h.adds.within k d (omega arith) (omega (arith, lt, c.walk-test.false, c.len.ensures)) (omega (arith, lt, h.adds.count)))

pub returns-after-walk-clause-small : goal.returns-after-walk-clause-small
returns-after-walk-clause-small c n a =
    let h = c.walk.invariant in
    let few = c.requires.few in
    let count = h.adds.count in
    let within = h.within in
    let m = c.member_of-member.result in
    whole-small n c.walk.i m.slope.ends m.share c.args.rays.now.items c.walk.rays.items c.args.raises.now.items c.walk.raises.items h.adds (omega (arith, few, count, within)) a
