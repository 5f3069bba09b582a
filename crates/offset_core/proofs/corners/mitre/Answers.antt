use Rattle.std.proofs.Common.{rules, ◌≡◌, ◌∙◌, ◌≤◌, w32, w64, ℤ, FitsSigned, arith, sym, subst, unsigned_abs}
use Rattle.std.specs.Int.{w128}
use Rattle.std.proofs.lemmas.Int.{ints, to_z-of_z}
use Rattle.offset_core.specs.Corners.{mitre_of}
use Rattle.offset_core.proofs.Parts.{narrowed}
use Rattle.offset_core.proofs.Mitres.{mitre_is}
use Rattle.offset_core.proofs.corners.mitre.Goals as goal

pub overflow_cast-result : goal.overflow_cast-result
overflow_cast-result c =
    let r = c.args.reach.sum in
    let z = c.round_div.result in
    let fm : FitsSigned w32 c.args.m = search rules in
    let fn : FitsSigned w32 c.args.n = search rules in
    let fs : FitsSigned w64 c.sum.result = search rules in
    let fq : FitsSigned w64 c.product.result = search rules in
    let ft : FitsSigned w128 c.times.result = search rules in
    let f64 : FitsSigned w64 c.args.reach.sum = search rules in
    let f128 : FitsSigned w128 c.args.reach.sum = omega (arith, ints, f64) in
    let fd : FitsSigned w32 c.args.d.by = search rules in
    let eq = simp to_z-of_z at c.product.ensures.exact in
    let es = simp to_z-of_z at c.sum.ensures.exact in
    let et = simp to_z-of_z at c.times.ensures.exact in
    let ez = simp to_z-of_z at c.round_div.ensures in
    let is : z ≡ mitre_of c.args.d.by r c.args.m c.args.n = mitre_is c.args.d.by r c.args.m c.args.n c.sum.result c.product.result c.times.result z es eq et ez in
    let small : unsigned_abs z ≤ 300000 = subst (λ (k : ℤ). unsigned_abs k ≤ 300000) (sym is) c.requires.near in
    omega (arith, ints, small)

pub returns : goal.returns
returns c =
    let r = c.args.reach.sum in
    let z = c.round_div.result in
    let fm : FitsSigned w32 c.args.m = search rules in
    let fn : FitsSigned w32 c.args.n = search rules in
    let fs : FitsSigned w64 c.sum.result = search rules in
    let fq : FitsSigned w64 c.product.result = search rules in
    let ft : FitsSigned w128 c.times.result = search rules in
    let fz : FitsSigned w128 c.round_div.result = search rules in
    let f64 : FitsSigned w64 c.args.reach.sum = search rules in
    let f128 : FitsSigned w128 c.args.reach.sum = omega (arith, ints, f64) in
    let fd : FitsSigned w32 c.args.d.by = search rules in
    let eq = simp to_z-of_z at c.product.ensures.exact in
    let es = simp to_z-of_z at c.sum.ensures.exact in
    let et = simp to_z-of_z at c.times.ensures.exact in
    let ez = simp to_z-of_z at c.round_div.ensures in
    let is : z ≡ mitre_of c.args.d.by r c.args.m c.args.n = mitre_is c.args.d.by r c.args.m c.args.n c.sum.result c.product.result c.times.result z es eq et ez in
    let small : unsigned_abs z ≤ 300000 = subst (λ (k : ℤ). unsigned_abs k ≤ 300000) (sym is) c.requires.near in
    let f32 : FitsSigned w32 z = omega (arith, ints, small) in
    narrowed z fz f32 ∙ is
