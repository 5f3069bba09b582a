use Rattle.std.proofs.Common.{◌≡◌, ◌+◌, ◌-◌, ◌/◌, ◌<◌, length, arith, ⊎_elim, true, false}
use Rattle.preheat_core.specs.Need.{latest}
use Rattle.preheat_core.specs.Places.{is_covering, place_of}
use Rattle.preheat_core.proofs.Halves.{half_step, half_cases, falling}
use Rattle.preheat_core.proofs.placing.search.Goals as goal

pub halves-preserved : goal.halves-preserved
halves-preserved c =
    let w = c.args.window.now in
    let x = c.args.e.now in
    let s = c.halves.span in
    let t = c.half-span.result in
    let covers = is_covering w x c.args.left c.args.front c.args.start in
    let mid = s.low + (s.high - s.low) / 2 in
    let wide : s.low + 1 < s.high = omega (arith, c.halves-test.true) in
    let a : s.low < mid = omega (arith, wide) in
    let b : mid < s.high = omega (arith, wide) in
    let cases = half_cases covers s t mid c.half-span.ensures in
    let rest = half_step covers (place_of w x c.args.left c.args.front c.args.start) s.low s.high mid t.low t.high a b (λ d up e. falling w x c.args.left c.args.front c.args.start mid d up e) c.halves.invariant.rest cases in
    ⊎_elim
    (λ (y : (covers mid ≡ true) × (t.low ≡ mid) × (t.high ≡ s.high)). record { low = omega (arith, y.1, y.2, b); front = omega (arith, y.1, a, c.halves.invariant.front); high = omega (arith, y.2, c.halves.invariant.high); rest = rest })
    (λ (n : (covers mid ≡ false) × (t.low ≡ s.low) × (t.high ≡ mid)). record { low = omega (arith, n.1, n.2, a); front = omega (arith, n.1, c.halves.invariant.front); high = omega (arith, n.2, b, c.halves.invariant.high); rest = rest })
    cases
