use Rattle.std.proofs.Common.{rules, ◌≡◌, ◌∙◌, ◌≤◌, ℕ, ◌<◌, w32, w64, ℤ, FitsSigned, to_z, arith, sym, ap, subst, unsigned_abs}
use Rattle.std.specs.Int.{w128}
use Rattle.std.proofs.lemmas.Int.{ints, to_z-of_z}
use Rattle.slice_base.specs.Whole.{rounded}
use Rattle.offset_core.specs.Normals.{part_of}
use Rattle.offset_core.proofs.Parts.{part_of-le, part_is, narrowed}
use Rattle.offset_core.proofs.normals.part.Goals as goal

quotient_is : (r t z : ℤ) (v whole : ℕ) → r ≡ rounded t v → v ≡ whole → r ≡ rounded t whole
quotient_is r t z v whole e ev = e ∙ ap (λ (k : ℕ). rounded t k) ev

pub overflow_cast-result : goal.overflow_cast-result
overflow_cast-result c =
    let r = c.round_div.result in
    let t = c.thousandfold.result in
    let p = c.product.result in
    let ft : FitsSigned w128 t = search rules in
    let fp : FitsSigned w64 p = search rules in
    let fs : FitsSigned w64 c.args.step = search rules in
    let e1 = simp to_z-of_z at c.product.ensures.exact in
    let e2 = simp to_z-of_z at c.thousandfold.ensures.exact in
    let e3 = simp to_z-of_z at c.round_div.ensures in
    let w : unsigned_abs (to_z w128 c.args.whole) ≡ c.args.whole = omega (arith, ints) in
    let is : r ≡ part_of c.args.d.by c.args.step c.args.whole = part_is c.args.step c.args.d.by p t r c.args.whole e1 e2 (quotient_is r t t (unsigned_abs (to_z w128 c.args.whole)) c.args.whole e3 w) in
    let some : 0 < c.args.whole = omega (arith, c.if-whole-eq0.false) in
    let small : unsigned_abs r ≤ unsigned_abs c.args.d.by = subst (λ (z : ℤ). unsigned_abs z ≤ unsigned_abs c.args.d.by) (sym is) (part_of-le c.args.step c.args.d.by c.args.whole c.requires.long some) in
    omega (arith, ints, small)

pub returns-clause-exact : goal.returns-clause-exact
returns-clause-exact c =
    let r = c.round_div.result in
    let t = c.thousandfold.result in
    let p = c.product.result in
    let fr : FitsSigned w128 r = search rules in
    let ft : FitsSigned w128 t = search rules in
    let fp : FitsSigned w64 p = search rules in
    let fs : FitsSigned w64 c.args.step = search rules in
    let e1 = simp to_z-of_z at c.product.ensures.exact in
    let e2 = simp to_z-of_z at c.thousandfold.ensures.exact in
    let e3 = simp to_z-of_z at c.round_div.ensures in
    let w : unsigned_abs (to_z w128 c.args.whole) ≡ c.args.whole = omega (arith, ints) in
    let is : r ≡ part_of c.args.d.by c.args.step c.args.whole = part_is c.args.step c.args.d.by p t r c.args.whole e1 e2 (quotient_is r t t (unsigned_abs (to_z w128 c.args.whole)) c.args.whole e3 w) in
    let some : 0 < c.args.whole = omega (arith, c.if-whole-eq0.false) in
    let small : unsigned_abs r ≤ unsigned_abs c.args.d.by = subst (λ (z : ℤ). unsigned_abs z ≤ unsigned_abs c.args.d.by) (sym is) (part_of-le c.args.step c.args.d.by c.args.whole c.requires.long some) in
    let f32 : FitsSigned w32 r = omega (arith, ints, small) in
    narrowed r fr f32 ∙ is

pub returns-clause-small : goal.returns-clause-small
returns-clause-small c =
    let r = c.round_div.result in
    let t = c.thousandfold.result in
    let p = c.product.result in
    let fr : FitsSigned w128 r = search rules in
    let ft : FitsSigned w128 t = search rules in
    let fp : FitsSigned w64 p = search rules in
    let fs : FitsSigned w64 c.args.step = search rules in
    let e1 = simp to_z-of_z at c.product.ensures.exact in
    let e2 = simp to_z-of_z at c.thousandfold.ensures.exact in
    let e3 = simp to_z-of_z at c.round_div.ensures in
    let w : unsigned_abs (to_z w128 c.args.whole) ≡ c.args.whole = omega (arith, ints) in
    let is : r ≡ part_of c.args.d.by c.args.step c.args.whole = part_is c.args.step c.args.d.by p t r c.args.whole e1 e2 (quotient_is r t t (unsigned_abs (to_z w128 c.args.whole)) c.args.whole e3 w) in
    let some : 0 < c.args.whole = omega (arith, c.if-whole-eq0.false) in
    let small : unsigned_abs r ≤ unsigned_abs c.args.d.by = subst (λ (z : ℤ). unsigned_abs z ≤ unsigned_abs c.args.d.by) (sym is) (part_of-le c.args.step c.args.d.by c.args.whole c.requires.long some) in
    let f32 : FitsSigned w32 r = omega (arith, ints, small) in
    subst (λ (z : ℤ). unsigned_abs z ≤ unsigned_abs c.args.d.by) (sym (narrowed r fr f32)) small
