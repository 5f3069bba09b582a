-- What a corner gives, case by case, and how near that is.
use Rattle.std.proofs.Common.{length, get_or, drop, add-one, drop-cons, append_assoc, ◌≡◌, ◌∙◌, ◌<◌, ◌≤◌, ◌+◌, ◌*◌, ℕ, ℤ, pos, Bool, true, false, cond, List, [], ◌∷◌, ◌++◌, arith, refl, sym, ap, subst}
use Rattle.std.specs.List.{All}
use Rattle.std.proofs.lemmas.Int.{ints}
use Rattle.std.proofs.lemmas.List.Elements.{All-nil, All-cons, All-head, All-tail, All-append, All-weaker}
use Rattle.slice_base.specs.declared.points.Pt.{Pt}
use Rattle.slice_base.specs.Plane.{same_point}
use Rattle.slice_base.specs.Boxes.{Box, IsIn, grown}
use Rattle.offset_core.specs.Normals.{normal_of}
use Rattle.offset_core.specs.Corners.{shifted_of, reach_of, mitred_of, is_near, is_inner_corner, corner_by, corner_of, corners_from, corners_of, unless_same, apart_from, apart_of, moved_loops_of}
use Rattle.offset_core.specs.Inner.Nearness.{IsWithin}

by-away : (t : Bool) (d : ℤ) (p m n : Pt) → t ≡ true → corner_by t d p m n ≡ shifted_of p m ∷ p ∷ shifted_of p n ∷ []
by-away true d p m n h = refl
by-away false d p m n h = absurd (cc)

near_if : (t : Bool) (p q r : Pt) → t ≡ true → cond t (p ∷ []) (q ∷ r ∷ []) ≡ p ∷ []
near_if true p q r h = refl
near_if false p q r h = absurd (cc)

far_if : (t : Bool) (p q r : Pt) → t ≡ false → cond t (p ∷ []) (q ∷ r ∷ []) ≡ q ∷ r ∷ []
far_if true p q r h = absurd (cc)
far_if false p q r h = refl

by-near : (t : Bool) (d : ℤ) (p m n : Pt) → t ≡ false → is_near d (reach_of d m n) ≡ true → corner_by t d p m n ≡ mitred_of d p m n ∷ []
by-near true d p m n h near = absurd (cc)
by-near false d p m n h near = near_if (is_near d (reach_of d m n)) (mitred_of d p m n) (shifted_of p m) (shifted_of p n) near

by-far : (t : Bool) (d : ℤ) (p m n : Pt) → t ≡ false → is_near d (reach_of d m n) ≡ false → corner_by t d p m n ≡ shifted_of p m ∷ shifted_of p n ∷ []
by-far true d p m n h far = absurd (cc)
by-far false d p m n h far = far_if (is_near d (reach_of d m n)) (mitred_of d p m n) (shifted_of p m) (shifted_of p n) far

-- the corner, by its normals
corner-normals : (d : ℤ) (a p q m n : Pt) → m ≡ normal_of d a p → n ≡ normal_of d p q → corner_of d a p q ≡ corner_by (is_inner_corner d a p q) d p m n
corner-normals d a p q m n em en = ap (λ (k : Pt). corner_by (is_inner_corner d a p q) d p k (normal_of d p q)) (sym em) ∙ ap (λ (k : Pt). corner_by (is_inner_corner d a p q) d p m k) (sym en)

pub corner-away : (d : ℤ) (a p q m n x y : Pt) → m ≡ normal_of d a p → n ≡ normal_of d p q → is_inner_corner d a p q ≡ true → x ≡ shifted_of p m → y ≡ shifted_of p n → corner_of d a p q ≡ x ∷ p ∷ y ∷ []
corner-away d a p q m n x y em en t ex ey =
    corner-normals d a p q m n em en ∙ (by-away (is_inner_corner d a p q) d p m n t
    ∙ (ap (λ (k : Pt). k ∷ p ∷ shifted_of p n ∷ []) (sym ex) ∙ ap (λ (k : Pt). x ∷ p ∷ k ∷ []) (sym ey)))

pub corner-near : (d r : ℤ) (a p q m n x : Pt) → m ≡ normal_of d a p → n ≡ normal_of d p q → is_inner_corner d a p q ≡ false → r ≡ reach_of d m n → is_near d r ≡ true → x ≡ mitred_of d p m n → corner_of d a p q ≡ x ∷ []
corner-near d r a p q m n x em en t er near ex =
    corner-normals d a p q m n em en ∙ (by-near (is_inner_corner d a p q) d p m n t (subst (λ (k : ℤ). is_near d k ≡ true) er near)
    ∙ ap (λ (k : Pt). k ∷ []) (sym ex))

pub corner-far : (d r : ℤ) (a p q m n x y : Pt) → m ≡ normal_of d a p → n ≡ normal_of d p q → is_inner_corner d a p q ≡ false → r ≡ reach_of d m n → is_near d r ≡ false → x ≡ shifted_of p m → y ≡ shifted_of p n → corner_of d a p q ≡ x ∷ y ∷ []
corner-far d r a p q m n x y em en t er far ex ey =
    corner-normals d a p q m n em en ∙ (by-far (is_inner_corner d a p q) d p m n t (subst (λ (k : ℤ). is_near d k ≡ false) er far)
    ∙ (ap (λ (k : Pt). k ∷ shifted_of p n ∷ []) (sym ex) ∙ ap (λ (k : Pt). x ∷ k ∷ []) (sym ey)))

-- ---- lists of a few

pub all_one : (P : Pt → Type 0) (x : Pt) (xs : List Pt) → xs ≡ x ∷ [] → P x → All P xs
all_one P x xs is h = subst (λ (l : List Pt). All P l) (sym is) (All-cons P x [] h (All-nil P))

pub all_two : (P : Pt → Type 0) (x y : Pt) (xs : List Pt) → xs ≡ x ∷ y ∷ [] → P x → P y → All P xs
all_two P x y xs is h i = subst (λ (l : List Pt). All P l) (sym is) (All-cons P x (y ∷ []) h (All-cons P y [] i (All-nil P)))

pub all_three : (P : Pt → Type 0) (x y z : Pt) (xs : List Pt) → xs ≡ x ∷ y ∷ z ∷ [] → P x → P y → P z → All P xs
all_three P x y z xs is h i j = subst (λ (l : List Pt). All P l) (sym is) (All-cons P x (y ∷ z ∷ []) h (All-cons P y (z ∷ []) i (All-cons P z [] j (All-nil P))))

-- ---- near points

pub near-itself : (far : ℕ) (p : Pt) → IsWithin far p p
near-itself far p = record { x_near = omega (arith, ints); y_near = omega (arith, ints) }

pub near-weaker : (near far : ℕ) (p q : Pt) → near ≤ far → IsWithin near p q → IsWithin far p q
near-weaker near far p q le h = record { x_near = omega (arith, h.x_near); y_near = omega (arith, h.y_near) }

near-in : (box : Box) (h : ℕ) (p q : Pt) → IsIn box p → IsWithin (3 * h) p q → IsIn (grown (3 * h + 3) box) q
near-in box h p q inside near = record {
  x_from = omega (arith, ints, inside.x_from, near.x_near);
  x_to = omega (arith, ints, inside.x_to, near.x_near);
  y_from = omega (arith, ints, inside.y_from, near.y_near);
  y_to = omega (arith, ints, inside.y_to, near.y_near);
}

pub all_near-in : (box : Box) (h : ℕ) (p : Pt) (qs : List Pt) → IsIn box p → All (IsWithin (3 * h) p) qs → All (IsIn (grown (3 * h + 3) box)) qs
all_near-in box h p qs inside near = All-weaker (IsWithin (3 * h) p) (IsIn (grown (3 * h + 3) box)) (λ q. near-in box h p q inside) qs near

-- ---- points apart

if_all : (P : Pt → Type 0) (t : Bool) (p : Pt) → P p → All P (cond t [] (p ∷ []))
if_all P true p h = All-nil P
if_all P false p h = All-cons P p [] h (All-nil P)

apart_from-all : (P : Pt → Type 0) (a : Pt) (ps : List Pt) → All P ps → All P (apart_from a ps)
apart_from-all P a [] h = h
apart_from-all P a (p ∷ ps) h = All-append P (unless_same a p) (apart_from p ps) (if_all P (same_point a p) p (All-head P p ps h)) (apart_from-all P p ps (All-tail P p ps h))

pub apart_of-all : (P : Pt → Type 0) (ps : List Pt) → All P ps → All P (apart_of ps)
apart_of-all P [] h = h
apart_of-all P (p ∷ ps) h = apart_from-all P _ (p ∷ ps) h

-- ---- loops in steps

-- what an index past the end would read
abbrev pub origin : Pt
origin = record { x = pos 0; y = pos 0 }

rest-drop : (d : ℤ) (first a p : Pt) (qs : List Pt) (i : ℕ) → i < length qs → corners_from d first a p (drop i qs) ≡ corner_of d a p (get_or qs i origin) ++ corners_from d first p (get_or qs i origin) (drop (i + 1) qs)
rest-drop d first a p qs i below = rw (add-one i, drop-cons qs i origin)

pub corners-step : (d : ℤ) (first a p : Pt) (qs : List Pt) (i : ℕ) (old new whole : List Pt) → i < length qs → new ≡ old ++ corner_of d a p (get_or qs i origin)
    → old ++ corners_from d first a p (drop i qs) ≡ whole → new ++ corners_from d first p (get_or qs i origin) (drop (i + 1) qs) ≡ whole
corners-step d first a p qs i old new whole below pushed before =
    let q = get_or qs i origin in
    let rest = corners_from d first p q (drop (i + 1) qs) in
    ap (λ (l : List Pt). l ++ rest) pushed
    ∙ (append_assoc old (corner_of d a p q) rest
    ∙ (ap (λ (l : List Pt). old ++ l) (sym (rest-drop d first a p qs i below)) ∙ before))

loops-drop : (d : ℤ) (l : List Pt) (ls : List (List Pt)) (i : ℕ) → i < length ls → moved_loops_of d (drop i ls) ≡ corners_of d (apart_of (get_or ls i l)) ∷ moved_loops_of d (drop (i + 1) ls)
loops-drop d l ls i below = rw (add-one i, drop-cons ls i l)

pub loops-step : (d : ℤ) (l x : List Pt) (ls : List (List Pt)) (i : ℕ) (old new whole : List (List Pt)) → i < length ls → l ≡ get_or ls i l → x ≡ corners_of d (apart_of l) → new ≡ old ++ x ∷ []
    → old ++ moved_loops_of d (drop i ls) ≡ whole → new ++ moved_loops_of d (drop (i + 1) ls) ≡ whole
loops-step d l x ls i old new whole below at is pushed before =
    let rest = moved_loops_of d (drop (i + 1) ls) in
    let y = corners_of d (apart_of (get_or ls i l)) in
    let e : x ≡ corners_of d (apart_of (get_or ls i l)) = is ∙ ap (λ (k : List Pt). corners_of d (apart_of k)) at in
    ap (λ (m : List (List Pt)). m ++ rest) pushed
    ∙ (append_assoc old (x ∷ []) rest
    ∙ (ap (λ (k : List Pt). old ++ k ∷ rest) e
    ∙ (ap (λ (m : List (List Pt)). old ++ m) (sym (loops-drop d l ls i below)) ∙ before)))
