use Rattle.std.proofs.Common.{◌+ℤ◌, ◌∙◌, sym, ap, subst, FitsSigned, w32, rules}
use Rattle.std.proofs.lemmas.Int.{to_z-of_z}
use Rattle.clip_core.specs.declared.bundles.Bundle.{Bundle}
use Rattle.clip_core.specs.Inner.Rays.{strip_of}
use Rattle.clip_core.specs.Inner.Slopes.{IsBreadth}
use Rattle.clip_core.proofs.rays.member_of.Goals as goal

pub returns-clause-is : goal.returns-clause-is
returns-clause-is c =
    let g : FitsSigned w32 c.bundle_of-ends.result.low.y = search rules in
    let h : FitsSigned w32 c.bundle_of-ends.result.high.y = search rules in
    let first = simp to_z-of_z at c.strip_of.ensures.exact in
    let last = simp to_z-of_z at c.strip_of-2.ensures.exact in
    let same = sym c.slope_of.ensures.ends in
    record {
      slope = c.slope_of.ensures.is;
      share_small = c.share.ensures.small;
      first = first ∙ ap (λ (b : Bundle). strip_of c.args.bits (b.low.y +ℤ b.low.y)) same;
      last = last ∙ ap (λ (b : Bundle). strip_of c.args.bits (b.high.y +ℤ b.high.y)) same;
      breadth = subst (λ (b : Bundle). IsBreadth b c.breadth_of.result) same c.breadth_of.ensures;
    }
