use Rattle.std.proofs.Common.{◌≡◌, ◌∙◌, FitsSigned, w32, rules, ℤ}
use Rattle.std.proofs.lemmas.Int.{to_z-of_z}
use Rattle.std.specs.Int.{int_max}
use Rattle.slice_base.specs.declared.points.Tri.{Tri}
use Rattle.cross_section.specs.Inner.Tops.{raised}
use Rattle.cross_section.proofs.mesh.raised.Goals as goal

raised-is : (z a b c : ℤ) (t : Tri) → a ≡ int_max z t.a.z → b ≡ int_max a t.b.z → c ≡ int_max b t.c.z → c ≡ raised z t
raised-is z a b c t ea eb ec = rw (ec, eb, ea)

pub returns : goal.returns
returns c =
    let f0 : FitsSigned w32 c.args.z = search rules in
    let f1 : FitsSigned w32 c.max.result = search rules in
    let f2 : FitsSigned w32 c.max-2.result = search rules in
    let f3 : FitsSigned w32 c.max-3.result = search rules in
    let g1 : FitsSigned w32 c.args.t.a.z = search rules in
    let g2 : FitsSigned w32 c.args.t.b.z = search rules in
    let g3 : FitsSigned w32 c.args.t.c.z = search rules in
    let e1 = simp to_z-of_z at c.max.ensures.value in
    let e2 = simp to_z-of_z at c.max-2.ensures.value in
    let e3 = simp to_z-of_z at c.max-3.ensures.value in
    to_z-of_z w32 c.max-3.result f3 ∙ raised-is c.args.z c.max.result c.max-2.result c.max-3.result c.args.t e1 e2 e3
