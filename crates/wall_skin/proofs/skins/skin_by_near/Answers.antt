use Rattle.std.proofs.Common.{◌≡◌, ◌∙◌, ℕ, List, ◌++◌, arith, ap, subst, length, take, drop, Ok, Err}
use Rattle.std.specs.List.{All}
use Rattle.std.proofs.lemmas.Result.{IfOk-weaker, err_from_is_err_and}
use Rattle.std.proofs.lemmas.List.Elements.{All-same}
use Rattle.slice_base.specs.declared.points.Pt.{Pt}
use Rattle.slice_base.specs.Boxes.{Box}
use Rattle.slice_base.specs.Regions.{RegionIn}
use Rattle.edge_cut.specs.Faults.{IsCutFault}
use Rattle.wall_skin.specs.Skin.{near_of, shared_of}
use Rattle.wall_skin.proofs.Splits.{there-are, all_below, near-shared_fault, near-split}
use Rattle.wall_skin.proofs.skins.skin_by_near.Goals as goal

pub below-lower-requires-clause-there : goal.below-lower-requires-clause-there
below-lower-requires-clause-there c = (there-are (length c.args.inners.now) c.args.layer c.args.bottom c.args.top c.requires.there).0

pub below-lower-requires-clause-layer_in : goal.below-lower-requires-clause-layer_in
below-lower-requires-clause-layer_in c = let t = there-are (length c.args.inners.now) c.args.layer c.args.bottom c.args.top c.requires.there in omega (arith, t.1)

pub above-upper-requires : goal.above-upper-requires
above-upper-requires c = record { there = (there-are (length c.args.inners.now) c.args.layer c.args.bottom c.args.top c.requires.there).1 }

near-is : (xs ys xs' ys' : List (List (List Pt))) → xs ≡ xs' → ys ≡ ys' → xs ++ ys ≡ xs' ++ ys'
near-is xs ys xs' ys' e f = ap (λ (l : List (List (List Pt))). l ++ ys) e ∙ ap (λ (l : List (List (List Pt))). xs' ++ l) f

pub returns-in_err-shared-clause-answer : goal.returns-in_err-shared-clause-answer
returns-in_err-shared-clause-answer c =
    let p = err_from_is_err_and c.from_residual.result c.from_residual.ensures.1 in
    let e = p.1 ∙ ap Err p.2 in
    let fault = c.in_err-shared.field-0.0 in
    let n = near-is c.below-lower.result.now c.above-upper.result.now _ _ c.below-lower.ensures c.above-upper.ensures in
    rw e (near-shared_fault c.args.inners.now c.args.layer c.args.bottom c.args.top c.args.inner.now fault c.requires.some c.requires.there
    (subst (λ (l : List (List (List Pt))). IsCutFault (shared_of l) fault) n c.in_err-shared.ensures.answer))

pub returns-clause-answer : goal.returns-clause-answer
returns-clause-answer c =
    let shared = c.in_ok-shared.shared in
    let n = near-is c.below-lower.result.now c.above-upper.result.now _ _ c.below-lower.ensures c.above-upper.ensures in
    let s : shared_of (near_of c.args.inners.now c.args.layer c.args.bottom c.args.top) ≡ Ok c.in_ok-shared.shared = subst (λ (l : List (List (List Pt))). shared_of l ≡ Ok c.in_ok-shared.shared) n c.in_ok-shared.ensures.answer in
    let e = near-split c.args.inners.now c.args.layer c.args.bottom c.args.top c.args.inner.now shared c.requires.some c.requires.there s in
    rw e c.skin_outside.ensures.answer

shared-in : (box : Box) (lower upper inners : List (List (List Pt))) (a b d e : ℕ) → lower ≡ take a (drop b inners) → upper ≡ take d (drop e inners) → All (RegionIn box) inners → All (RegionIn box) lower × All (RegionIn box) upper
shared-in box lower upper inners a b d e el eu h =
    (All-same (RegionIn box) lower (take a (drop b inners)) el (all_below (RegionIn box) inners a b h), All-same (RegionIn box) upper (take d (drop e inners)) eu (all_below (RegionIn box) inners d e h))

pub returns-clause-skin_within : goal.returns-clause-skin_within
returns-clause-skin_within c = IfOk-weaker c.skin_outside.result _ _
    (λ s inside box h i. let t = shared-in box c.below-lower.result.now c.above-upper.result.now c.args.inners.now _ _ _ _ c.below-lower.ensures c.above-upper.ensures i in
    inside box h (c.in_ok-shared.ensures.within box t.0 t.1))
    c.skin_outside.ensures.skin_within

pub returns-clause-fill_within : goal.returns-clause-fill_within
returns-clause-fill_within c = IfOk-weaker c.skin_outside.result _ _
    (λ s inside box h i. let t = shared-in box c.below-lower.result.now c.above-upper.result.now c.args.inners.now _ _ _ _ c.below-lower.ensures c.above-upper.ensures i in
    inside box h (c.in_ok-shared.ensures.within box t.0 t.1))
    c.skin_outside.ensures.fill_within
