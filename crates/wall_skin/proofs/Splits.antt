-- Skin and fill, case by case.
use Rattle.std.proofs.Common.{◌≡◌, ◌∙◌, ◌<◌, ◌≤◌, ◌+◌, ℕ, Bool, true, false, cond, List, [], ◌∷◌, ◌++◌, Result, Ok, length, take, drop, get_or, arith, refl, sym, ap, subst}
use Rattle.std.specs.Prelude.{◌==◌}
use Rattle.std.proofs.lemmas.Bool.Decides.{nat_tests}
use Rattle.std.specs.List.{All}
use Rattle.std.proofs.lemmas.List.Elements.{All-take, All-drop}
use Rattle.slice_base.specs.declared.points.Pt.{Pt}
use Rattle.edge_cut.specs.declared.cutting.CutFault.{CutFault}
use Rattle.clip_core.specs.declared.keeping.Operation.TheVariants.{Subtract, Meet}
use Rattle.clip_core.specs.Clip.{clipped_of}
use Rattle.slice_base.specs.Outcomes.{and_then, fold_ok}
use Rattle.edge_cut.specs.Faults.{IsCutFault}
use Rattle.slice_base.proofs.Outcomes.{fold_ok-append, and_then-ok}
use Rattle.wall_skin.proofs.Faults.{append-fault, and_then-fault}
use Rattle.wall_skin.specs.declared.skins.Split.{Split}
use Rattle.wall_skin.specs.Skin.{near_of, shared_of, lacks_near, parts_of, with_fill, skin_outside_of, skin_in_of, skin_of}

if_true : {X : Type 0} (t : Bool) (x y : X) → t ≡ true → cond t x y ≡ x
if_true true x y h = refl
if_true false x y h = absurd (cc)

if_false : {X : Type 0} (t : Bool) (x y : X) → t ≡ false → cond t x y ≡ y
if_false true x y h = absurd (cc)
if_false false x y h = refl

pub split-none : (inners : List (List (List Pt))) (layer bottom top : ℕ) (inner : List (List Pt)) → (bottom + top == 0) ≡ true → skin_in_of inners layer bottom top inner ≡ Ok (record { skin = []; fill = inner })
split-none inners layer bottom top inner none = if_true (bottom + top == 0) _ _ none

pub split-open : (inners : List (List (List Pt))) (layer bottom top : ℕ) (inner : List (List Pt)) → (bottom + top == 0) ≡ false → lacks_near (length inners) layer bottom top ≡ true → skin_in_of inners layer bottom top inner ≡ Ok (record { skin = inner; fill = [] })
split-open inners layer bottom top inner some lacks = if_false (bottom + top == 0) _ _ some ∙ if_true (lacks_near (length inners) layer bottom top) _ _ lacks

pub split-near : (inners : List (List (List Pt))) (layer bottom top : ℕ) (inner : List (List Pt)) → (bottom + top == 0) ≡ false → lacks_near (length inners) layer bottom top ≡ false
    → skin_in_of inners layer bottom top inner ≡ and_then (shared_of (near_of inners layer bottom top)) (skin_outside_of inner)
split-near inners layer bottom top inner some there = if_false (bottom + top == 0) _ _ some ∙ if_false (lacks_near (length inners) layer bottom top) _ _ there

-- ---- skin and fill in two steps

pub split-skin_fault : (inner shared : List (List Pt)) (fault : CutFault) → IsCutFault (clipped_of Subtract inner shared) fault → IsCutFault (skin_outside_of inner shared) fault
split-skin_fault inner shared fault h = and_then-fault (clipped_of Subtract inner shared) (with_fill inner) fault h

pub split-fill_fault : (inner shared skin : List (List Pt)) (fault : CutFault) → clipped_of Subtract inner shared ≡ Ok skin → IsCutFault (clipped_of Subtract inner skin) fault → IsCutFault (skin_outside_of inner shared) fault
split-fill_fault inner shared skin fault e h =
    subst (λ (r : Result Split ℕ). IsCutFault r fault) (sym (and_then-ok (clipped_of Subtract inner shared) (with_fill inner) skin e))
    (and_then-fault (clipped_of Subtract inner skin) (λ (fill : List (List Pt)). Ok (parts_of skin fill)) fault h)

pub split-is : (inner shared skin fill : List (List Pt)) → clipped_of Subtract inner shared ≡ Ok skin → clipped_of Subtract inner skin ≡ Ok fill → skin_outside_of inner shared ≡ Ok (parts_of skin fill)
split-is inner shared skin fill e f =
    and_then-ok (clipped_of Subtract inner shared) (with_fill inner) skin e
    ∙ and_then-ok (clipped_of Subtract inner skin) (λ (i : List (List Pt)). let r : Result Split ℕ = Ok (parts_of skin i) in r) fill f

pub near-shared_fault : (inners : List (List (List Pt))) (layer bottom top : ℕ) (inner : List (List Pt)) (fault : CutFault) → (bottom + top == 0) ≡ false → lacks_near (length inners) layer bottom top ≡ false
    → IsCutFault (shared_of (near_of inners layer bottom top)) fault → IsCutFault (skin_in_of inners layer bottom top inner) fault
near-shared_fault inners layer bottom top inner fault some there h =
    subst (λ (r : Result Split ℕ). IsCutFault r fault) (sym (split-near inners layer bottom top inner some there)) (and_then-fault (shared_of (near_of inners layer bottom top)) (skin_outside_of inner) fault h)

pub near-split : (inners : List (List (List Pt))) (layer bottom top : ℕ) (inner shared : List (List Pt)) → (bottom + top == 0) ≡ false → lacks_near (length inners) layer bottom top ≡ false
    → shared_of (near_of inners layer bottom top) ≡ Ok shared → skin_in_of inners layer bottom top inner ≡ skin_outside_of inner shared
near-split inners layer bottom top inner shared some there e = split-near inners layer bottom top inner some there ∙ and_then-ok (shared_of (near_of inners layer bottom top)) (skin_outside_of inner) shared e

-- ---- the near layers

pub there-are : (count layer bottom top : ℕ) → lacks_near count layer bottom top ≡ false → (bottom ≤ layer) × (layer + top < count)
there-are count layer bottom top h = (grind (arith, nat_tests), grind (arith, nat_tests))

pub all_below : (P : List (List Pt) → Type 0) (inners : List (List (List Pt))) (a b : ℕ) → All P inners → All P (take a (drop b inners))
all_below P inners a b h = All-take P a (drop b inners) (All-drop P b inners h)

-- ---- two lists

pub none-first : (xs ys : List (List (List Pt))) → length xs ≡ 0 → xs ++ ys ≡ ys
none-first [] ys h = refl
none-first (x ∷ xs) ys h = absurd (omega (arith, h))

pub shared-append : (xs ys : List (List (List Pt))) (s : List (List Pt)) → (length xs ≡ 0 → ⊥) → shared_of xs ≡ Ok s → shared_of (xs ++ ys) ≡ fold_ok (clipped_of Meet) s ys
shared-append [] ys s some e = absurd (some refl)
shared-append (x ∷ xs) ys s some e = fold_ok-append (clipped_of Meet) x s xs ys e

pub shared-append-fault : (xs ys : List (List (List Pt))) (fault : CutFault) → (length xs ≡ 0 → ⊥) → IsCutFault (shared_of xs) fault → IsCutFault (shared_of (xs ++ ys)) fault
shared-append-fault [] ys fault some h = absurd (some refl)
shared-append-fault (x ∷ xs) ys fault some h = append-fault (clipped_of Meet) x xs ys fault h

-- the skin of a layer, by its inner area
pub skin-is : (inners : List (List (List Pt))) (layer bottom top : ℕ) (inner : List (List Pt)) → inner ≡ get_or inners layer [] → skin_of inners layer bottom top ≡ skin_in_of inners layer bottom top inner
unfolding skin_of
skin-is inners layer bottom top inner e = ap (λ (i : List (List Pt)). skin_in_of inners layer bottom top i) (sym e)
