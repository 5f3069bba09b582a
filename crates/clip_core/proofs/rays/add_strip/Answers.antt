use Rattle.std.proofs.Common.{◌≡◌, ◌<◌, ◌≤◌, ◌+◌, ◌*◌, ℕ, List, length, get_or, arith, sym, subst}
use Rattle.clip_core.specs.declared.rays.Ray.{Ray}
use Rattle.clip_core.specs.Inner.Raises.{Adds}
use Rattle.clip_core.proofs.PassedBy.{above-keys}
use Rattle.clip_core.proofs.Shares.{still-rising}
use Rattle.clip_core.proofs.Stretches.{adds-as, adds-both, adds-key, adds-keyed, adds-right, strip-stays, written}
use Rattle.clip_core.proofs.rays.add_strip.Goals as goal

pub returns : goal.returns
returns c =
    let m = c.args.m in
    let f = m.slope.ends in
    let s = m.share in
    let i = c.args.i in
    let strip = c.args.strip in
    let rays = c.args.rays.now.items in
    let new = c.add_near.new.rays in
    let raises = c.args.raises.now.items in
    let mids = c.add_left-near.new.raises.items in
    let near = c.add_left-near.result in
    let stop = c.add_near.result in
    let end = c.args.end in
    let as_long : length new ≡ c.args.rays.now.len = omega (arith, c.add_near.auto.rays, c.as_mut_slice.ensures.len) in
    let first : Adds f s i near rays raises rays mids = adds-as f s i near rays c.as_slice.result.now raises mids c.as_slice.ensures.value c.add_left-near.ensures.exact in
    let second : Adds f s near stop rays mids new mids = subst (λ (rs : List Ray). Adds f s near stop rs mids new mids) c.as_mut_slice.ensures.value (c.add_near.ensures.exact mids) in
    let count = second.count in
    let keys : (k : ℕ) (d : Ray) → k < length new → (get_or new k d).key ≡ (get_or rays k d).key = λ k d below. adds-key f s near stop rays new mids mids second k d (omega (arith, below, count)) in
    let rising = still-rising rays new count keys c.requires.rising in
    let there = strip-stays f s strip i end near stop rays new mids mids second c.requires.in_strip in
    let past : (k : ℕ) (d : Ray) → stop ≤ k → k < end → k < length new → strip * 8589934592 + m.breadth.right < (get_or new k d).key = λ k d le lt below.
    let over = above-keys c.key_in.result new stop k d rising le below (c.add_near.ensures.past d (omega (arith, le, lt))) in
    omega (arith, over, c.key_in.ensures) in
    let third : Adds f s stop end new mids new mids = adds-right m strip stop end new mids c.requires.member c.add_near.ensures.within (adds-keyed m.bits f s near stop rays new mids mids second c.requires.keyed) (λ k d le lt below. there k d (omega (arith, le, c.add_near.ensures.later, c.add_left-near.ensures.later)) lt below) past in
    subst (λ (rs : List Ray). Adds f s i end rays raises rs mids) (sym (written c.args.rays.now.len new rays as_long))
    (adds-both f s i near end rays rays new raises mids mids c.add_left-near.ensures.later (omega (arith, c.add_near.ensures.later, c.add_near.ensures.within)) first
    (adds-both f s near stop end rays new new mids mids mids c.add_near.ensures.later c.add_near.ensures.within second third))
