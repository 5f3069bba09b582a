use Rattle.std.proofs.Common.{zero, suc, ◌≡◌, ◌*◌, ℕ, ◌+◌, List, pos, neg_ℤ, refl, sym, ap, subst}
use Rattle.std.proofs.lemmas.Result.{IfOk-weaker}
use Rattle.slice_base.specs.declared.points.Pt.{Pt}
use Rattle.slice_base.specs.Boxes.{grown}
use Rattle.slice_base.specs.Regions.{RegionIn}
use Rattle.wall_skin.proofs.Boxes.{region_in-grown}
use Rattle.offset_core.specs.Offset.{offset_of}
use Rattle.wall_skin.specs.Walls.{inner_area_of}
use Rattle.wall_skin.proofs.walling.inner_area.Goals as goal

inner-some : (outline : List (List Pt)) (width count most : ℕ) → (count ≡ 0 → ⊥) → most ≡ count * width → offset_of (neg_ℤ (pos most)) outline ≡ inner_area_of outline width count
inner-some outline width zero most some e = absurd (some refl)
inner-some outline width (suc n) most some e = ap (λ (k : ℕ). offset_of (neg_ℤ (pos k)) outline) e

pub returns-clause-answer : goal.returns-clause-answer
returns-clause-answer c =
    let e = inner-some c.args.outline.now c.args.width c.args.count c.args.most c.if-count-eq0.false c.requires.most_is in
    let h = rw e at c.inset.ensures.answer in
    h

pub returns-clause-small : goal.returns-clause-small
returns-clause-small c = IfOk-weaker c.inset.result _ _ (λ inner le few. le) c.inset.ensures.small

pub returns-then-count-eq0-clause-within : goal.returns-then-count-eq0-clause-within
returns-then-count-eq0-clause-within c = λ box h.
    subst (RegionIn (grown (3 * c.args.most + 3) box)) (sym c.in_ok-copy.ensures) (region_in-grown box (3 * c.args.most + 3) c.args.outline.now h)
