use Rattle.std.proofs.Common.{FitsSigned, w32, rules, ◌∙◌, ap}
use Rattle.std.specs.Int.{int_min, int_max}
use Rattle.std.proofs.lemmas.Int.{to_z-of_z}
use Rattle.cross_section.specs.Inner.Shelves.{span_of}
use Rattle.cross_section.proofs.Spans.{span-is}
use Rattle.cross_section.proofs.shelves.span_of.Goals as goal

pub returns : goal.returns
returns c =
    let fa : FitsSigned w32 c.args.t.a.z = search rules in
    let fb : FitsSigned w32 c.args.t.b.z = search rules in
    let fc : FitsSigned w32 c.args.t.c.z = search rules in
    let f1 : FitsSigned w32 c.min.result = search rules in
    let f2 : FitsSigned w32 c.min-2.result = search rules in
    let g1 : FitsSigned w32 c.max.result = search rules in
    let g2 : FitsSigned w32 c.max-2.result = search rules in
    let e1 = simp to_z-of_z at c.min.ensures.value in
    let e2 = simp to_z-of_z at c.min-2.ensures.value in
    let h1 = simp to_z-of_z at c.max.ensures.value in
    let h2 = simp to_z-of_z at c.max-2.ensures.value in
    span-is (span_of c.args.t) c.min-2.result c.max-2.result f2 g2 (e2 ∙ ap (λ v. int_min v c.args.t.c.z) e1) (h2 ∙ ap (λ v. int_max v c.args.t.c.z) h1)
