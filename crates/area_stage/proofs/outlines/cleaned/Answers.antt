use Rattle.std.proofs.Common.{◌∙◌, ℕ, List, sym, ap, subst, Result, Err}
use Rattle.std.proofs.lemmas.Result.{err_from_is_err_and}
use Rattle.slice_base.specs.declared.points.Pt.{Pt}
use Rattle.slice_base.specs.Boxes.{around}
use Rattle.edge_cut.specs.Faults.{IsCutFault}
use Rattle.area_stage.proofs.WallSteps.{cleaned-is}
use Rattle.area_stage.proofs.outlines.cleaned.Goals as goal

pub returns-in_err-region-clause-answer : goal.returns-in_err-region-clause-answer
returns-in_err-region-clause-answer c =
    let p = err_from_is_err_and c.from_residual-in_err-region.result c.from_residual-in_err-region.ensures.1 in
    let e = p.1 ∙ ap Err p.2 in
    let is = cleaned-is c.args.at.z c.args.mesh.now c.in_ok-stitched.stitched c.in_ok-stitched.ensures.is in
    rw e (subst (λ (a : Result (List (List Pt)) ℕ). IsCutFault a c.in_err-region.field-0.0) is c.in_err-region.ensures.answer)

pub invariant_of-result : goal.invariant_of-result
invariant_of-result c = record {
  small = record { few = c.in_ok-region.ensures.few; least = c.in_ok-region.ensures.least };
  inside = c.in_ok-region.ensures.within (around 1000000) (c.in_ok-stitched.ensures.within (around 1000000) c.requires.inside);
}

pub returns-clause-answer : goal.returns-clause-answer
returns-clause-answer c = sym (cleaned-is c.args.at.z c.args.mesh.now c.in_ok-stitched.stitched c.in_ok-stitched.ensures.is) ∙ c.in_ok-region.ensures.answer
