use Rattle.std.proofs.Common.{◌-ℤ◌, ◌∙◌, FitsSigned, w32, w64, rules}
use Rattle.std.specs.Int.{w128}
use Rattle.std.proofs.lemmas.Int.{to_z-of_z}
use Rattle.clip_core.proofs.Beside.{meets-is}
use Rattle.clip_core.proofs.slopes.meets_ray.Goals as goal

pub returns : goal.returns
returns c =
    let s = c.args.s in
    let g0 : FitsSigned w32 c.args.b.low.x = search rules in
    let g1 : FitsSigned w32 c.args.b.low.y = search rules in
    let g2 : FitsSigned w32 c.args.b.high.x = search rules in
    let g3 : FitsSigned w32 c.args.b.high.y = search rules in
    let h0 : FitsSigned w64 c.args.s.low = search rules in
    let h1 : FitsSigned w64 c.args.s.begin = search rules in
    let h2 : FitsSigned w64 c.args.s.across = search rules in
    let h3 : FitsSigned w64 c.args.s.up = search rules in
    let f0 : FitsSigned w64 c.total.result = search rules in
    let f1 : FitsSigned w64 c.way-up.result = search rules in
    let f2 : FitsSigned w64 c.total-2.result = search rules in
    let f3 : FitsSigned w64 c.way-across.result = search rules in
    let f4 : FitsSigned w128 c.product.result = search rules in
    let f5 : FitsSigned w128 c.product-2.result = search rules in
    let e0 = simp to_z-of_z at c.total.ensures.exact in
    let e1 = simp to_z-of_z at c.way-up.ensures.exact in
    let e2 = simp to_z-of_z at c.total-2.ensures.exact in
    let e3 = simp to_z-of_z at c.way-across.ensures.exact in
    let e4 = simp to_z-of_z at c.product.ensures in
    let e5 = simp to_z-of_z at c.product-2.ensures in
    let e6 = simp to_z-of_z at c.is_within.ensures in
    let e7 = simp to_z-of_z at c.is_less.ensures in
    meets-is s.ends c.args.b c.is_within.result c.is_less.result c.product-2.result c.product.result s.across c.way-up.result s.up c.way-across.result e6 e7 e5 e4 c.requires.across c.requires.up (e1 ∙ (λ i. e0 i -ℤ c.requires.low i)) (e3 ∙ (λ i. e2 i -ℤ c.requires.begin i))
