-- Edges that meet at ends alone, known by their sides and by shared ends.
use Rattle.std.proofs.Common.{◌≡◌, ◌≢◌, ◌<◌, ◌-◌, ℕ, ℤ, pos, ◌-ℤ◌, ◌+ℤ◌, ◌*ℤ◌, ◌≤ℤ◌, ◌&&◌, ◌||◌, Bool, true, false, cond, int_lt, List, [], ◌∷◌, ◌++◌, inl, inr, ◌⊎◌, arith, refl, sym, ap, ◌∙◌, subst}
use Rattle.std.specs.Ordering.{int_eq}
use Rattle.std.specs.Int.RustNames.{unsigned_abs}
use Rattle.std.specs.Cmp.{signed_Decides}
use Rattle.std.proofs.Math.IntN.{neg_ℤ, *ℤ-zero, zero-*ℤ, +ℤ_idl, +ℤ_idr}
use Rattle.std.proofs.lemmas.Int.{ints}
use Rattle.slice_base.specs.declared.points.Pt.{Pt}
use Rattle.slice_base.specs.declared.points.Edge.{Edge}
use Rattle.slice_base.specs.Plane.{cross_of, same_point}
use Rattle.slice_base.specs.Whole.{rounded}
use Rattle.slice_base.proofs.SamePoint.{same_point-is}
use Rattle.edge_cut.specs.declared.sides.Sides.{Sides}
use Rattle.edge_cut.specs.Meeting.{is_part, weighted, point_at, shared_of, crossing_of, meeting_of, turn_of, part_on, part_across, end_on}
use Rattle.std.specs.List.{Contains}
use Rattle.edge_cut.specs.Ordered.{IsEnd}
use Rattle.edge_cut.specs.Inner.Sides.{AreSides, share_end}
use Rattle.slice_base.proofs.Rounding.{rounded-le, le-rounded}
use Rattle.edge_cut.proofs.Ordered.{In, in-contained}
use Rattle.slice_base.proofs.Rings.{diff, diff_of, diff-eq, diff-sub, diff-mul}
use Rattle.edge_cut.proofs.Apart.{both-true, by-bool, none-if}
use Rattle.edge_cut.proofs.BothEdges.{turn-back, zero-back, cross-sum, crossing-taken, crossing-exchanged}

-- both ends of f on one side of e

side-sum : (e f : Edge) → cross_of e.from e.to e.from f.to ≡ cross_of e.from e.to e.from f.from +ℤ turn_of e f
side-sum e f = cross-sum e.from.x e.from.y e.to.x e.to.y f.from.x f.from.y f.to.x f.to.y

not-part : (s t w : ℤ) → ((int_lt (pos 0) s && int_lt (pos 0) t) || (int_lt s (pos 0) && int_lt t (pos 0))) ≡ true → t ≡ s +ℤ w → is_part (neg_ℤ s) w ≡ true → ⊥
not-part s t w h sum part = grind (arith, ints)

not-zero : (s t : ℤ) → ((int_lt (pos 0) s && int_lt (pos 0) t) || (int_lt s (pos 0) && int_lt t (pos 0))) ≡ true → int_eq s (pos 0) ≡ true → ⊥
not-zero s t h zero' = grind (arith, ints)

one-side-none : (e f : Edge) (s t : ℤ) → s ≡ cross_of e.from e.to e.from f.from → t ≡ cross_of e.from e.to e.from f.to → ((int_lt (pos 0) s && int_lt (pos 0) t) || (int_lt s (pos 0) && int_lt t (pos 0))) ≡ true → meeting_of e f ≡ []
one-side-none e f s t es et h =
    let sum : t ≡ s +ℤ turn_of e f = et ∙ (side-sum e f ∙ ap (λ (z : ℤ). z +ℤ turn_of e f) (sym es)) in
    let across : part_across e f ≡ neg_ℤ s = turn-back e.from e.to e.from f.from ∙ ap neg_ℤ (sym es) in
    by-bool (int_eq (turn_of e f) (pos 0)) (shared_of e f) (crossing_of e f)
    (λ _. by-bool (int_eq (cross_of e.from e.to e.from f.from) (pos 0)) (end_on e f.from ++ end_on e f.to) []
    (λ line. absurd (not-zero s t h (subst (λ (z : ℤ). int_eq z (pos 0) ≡ true) (sym es) line))) (λ _. refl))
    (λ _. none-if (is_part (part_on e f) (turn_of e f) && is_part (part_across e f) (turn_of e f)) _
    (λ both. not-part s t (turn_of e f) h sum (subst (λ (z : ℤ). is_part z (turn_of e f) ≡ true) across (both-true (is_part (part_on e f) (turn_of e f)) (is_part (part_across e f) (turn_of e f)) both).1)))

-- e meets f at its own ends alone
abbrev pub AtEnds : Edge → Edge → Type 0
AtEnds e f = (p : Pt) → Contains (meeting_of e f) p → IsEnd e p

none-in : (e f : Edge) → meeting_of e f ≡ [] → AtEnds e f
none-in e f none p h = elim (subst (λ (ps : List Pt). In p ps) none (in-contained p (meeting_of e f) h)) [ ]

pub one-side : (e f : Edge) (s : Sides) (r : Bool) → AreSides e f s → r ≡ ((int_lt (pos 0) s.from && int_lt (pos 0) s.to) || (int_lt s.from (pos 0) && int_lt s.to (pos 0))) → r ≡ true → AtEnds e f
one-side e f s r are is h = none-in e f (one-side-none e f s.from s.to are.from_is are.to_is (sym is ∙ h))

-- parallel edges

either-true : (a b : Bool) → (a || b) ≡ true → (a ≡ true) ⊎ (b ≡ true)
either-true true b h = inl refl
either-true false b h = inr h

pub is-end : (e : Edge) (p : Pt) → (same_point p e.from || same_point p e.to) ≡ true → IsEnd e p
is-end e p h = pick (either-true (same_point p e.from) (same_point p e.to) h)
  where
    pick : (same_point p e.from ≡ true) ⊎ (same_point p e.to ≡ true) → IsEnd e p
    pick (inl g) = inl (same_point-is p e.from g)
    pick (inr g) = inr (same_point-is p e.to g)

pub no-turn : (s t w : ℤ) → t ≡ s +ℤ w → s ≡ t → int_eq w (pos 0) ≡ true
no-turn s t w sum same = grind (arith, ints)

some-turn : (s t w : ℤ) → t ≡ s +ℤ w → s ≢ t → int_eq w (pos 0) ≡ true → ⊥
some-turn s t w sum other h = other (omega-zero s t w sum ((signed_Decides w (pos 0)).0 h))
  where
    omega-zero : (s t w : ℤ) → t ≡ s +ℤ w → w ≡ pos 0 → s ≡ t
    omega-zero s t w sum h = omega (arith, ints)

pub sides-sum : (e f : Edge) (s : Sides) → AreSides e f s → s.to ≡ s.from +ℤ turn_of e f
sides-sum e f s are = are.to_is ∙ (side-sum e f ∙ ap (λ (z : ℤ). z +ℤ turn_of e f) (sym are.from_is))

pub level-same : (s : Sides) (r : Bool) → r ≡ int_eq s.from s.to → r ≡ true → s.from ≡ s.to
level-same s r is h = (signed_Decides s.from s.to).0 (sym is ∙ h)

pub level-not : (s : Sides) (r : Bool) → r ≡ int_eq s.from s.to → r ≡ false → s.from ≢ s.to
level-not s r is h same = let yes' = (signed_Decides s.from s.to).1 same in let no' : int_eq s.from s.to ≡ false = sym is ∙ h in absurd (cc)

-- a shared end of edges that aren't parallel

le-both : (a b : ℤ) → a ≤ℤ b → b ≤ℤ a → a ≡ b
le-both a b g h = omega (arith, ints)

le-same : (a b : ℤ) → a ≡ b → a ≤ℤ b
le-same a b h = omega (arith, ints)

ge-same : (a b : ℤ) → a ≡ b → b ≤ℤ a
ge-same a b h = omega (arith, ints)

rounded-whole : (n a : ℤ) (w : ℕ) → 0 < w → n ≡ a *ℤ pos w → rounded n w ≡ a
rounded-whole n a w some is = le-both (rounded n w) a (rounded-le n a w some (le-same n (a *ℤ pos w) is)) (le-rounded n a w some (ge-same n (a *ℤ pos w) is))

less-none : (w : ℕ) → w - 0 ≡ w
less-none w = omega arith

less-all : (w : ℕ) → w - w ≡ 0
less-all w = omega arith

weighted-first : (a b : ℤ) (w : ℕ) → weighted a b 0 w ≡ a *ℤ pos w
weighted-first a b w = (λ i. (a *ℤ pos (less-none w i)) +ℤ (*ℤ-zero b i)) ∙ +ℤ_idr (a *ℤ pos w)

weighted-last : (a b : ℤ) (w : ℕ) → weighted a b w w ≡ b *ℤ pos w
weighted-last a b w = ap (λ (n : ℕ). (a *ℤ pos n) +ℤ (b *ℤ pos w)) (less-all w) ∙ (ap (λ (z : ℤ). z +ℤ (b *ℤ pos w)) (*ℤ-zero a) ∙ +ℤ_idl (b *ℤ pos w))

point-first : (e : Edge) (w : ℕ) → 0 < w → point_at e 0 w ≡ e.from
point-first e w some =
    let x = rounded-whole (weighted e.from.x e.to.x 0 w) e.from.x w some (weighted-first e.from.x e.to.x w) in
    let y = rounded-whole (weighted e.from.y e.to.y 0 w) e.from.y w some (weighted-first e.from.y e.to.y w) in
    λ i. record { x = x i; y = y i }

point-last : (e : Edge) (w : ℕ) → 0 < w → point_at e w w ≡ e.to
point-last e w some =
    let x = rounded-whole (weighted e.from.x e.to.x w w) e.to.x w some (weighted-last e.from.x e.to.x w) in
    let y = rounded-whole (weighted e.from.y e.to.y w w) e.to.y w some (weighted-last e.from.y e.to.y w) in
    λ i. record { x = x i; y = y i }

pub some-whole : (w : ℤ) → int_eq w (pos 0) ≡ false → 0 < unsigned_abs w
some-whole w h = grind (arith, ints)

-- the part of the way is none or all
abbrev pub IsWholePart : Edge → Edge → Type 0
IsWholePart e f = (part_on e f ≡ pos 0) ⊎ (part_on e f ≡ turn_of e f)

point-end : (e f : Edge) → int_eq (turn_of e f) (pos 0) ≡ false → IsWholePart e f → IsEnd e (point_at e (unsigned_abs (part_on e f)) (unsigned_abs (turn_of e f)))
point-end e f other (inl is) =
    inl (ap (λ (z : ℤ). point_at e (unsigned_abs z) (unsigned_abs (turn_of e f))) is ∙ point-first e (unsigned_abs (turn_of e f)) (some-whole (turn_of e f) other))
point-end e f other (inr is) =
    inr (ap (λ (z : ℤ). point_at e (unsigned_abs z) (unsigned_abs (turn_of e f))) is ∙ point-last e (unsigned_abs (turn_of e f)) (some-whole (turn_of e f) other))

in-one : (e : Edge) (p q : Pt) (b : Bool) → IsEnd e q → In p (cond b (q ∷ []) []) → IsEnd e p
in-one e p q true end (inl is) = subst (λ (r : Pt). IsEnd e r) is end
in-one e p q true end (inr h) = elim h [ ]
in-one e p q false end h = elim h [ ]

no-step : (a c d : Pt) → cross_of a a c d ≡ pos 0
no-step a c d = still a.x a.y (d.y -ℤ c.y) (d.x -ℤ c.x)
  where
    zero-gap : (x : ℤ) → x -ℤ x ≡ pos 0
    zero-gap x = omega (arith, ints)

    less-zero : pos 0 -ℤ pos 0 ≡ pos 0
    less-zero = omega (arith, ints)

    still : (x y u v : ℤ) → (x -ℤ x) *ℤ u -ℤ (y -ℤ y) *ℤ v ≡ pos 0
    still x y u v = (λ i. (zero-gap x i) *ℤ u -ℤ (zero-gap y i) *ℤ v) ∙ ((λ i. (zero-*ℤ u i) -ℤ (zero-*ℤ v i)) ∙ less-zero)

diff-none : (p q : ℕ) → p ≡ q → diff p q ≡ pos 0
unfolding diff
diff-none p q h = omega (arith, ints)

there-and-back-by : (cx cy dx dy : ℤ) → (cx -ℤ dx) *ℤ (dy -ℤ cy) -ℤ (cy -ℤ dy) *ℤ (dx -ℤ cx) ≡ pos 0
there-and-back-by cx cy dx dy =
    let c = diff_of cx in
    let c' = diff_of cy in
    let d = diff_of dx in
    let d' = diff_of dy in
    rw (c.is, c'.is, d.is, d'.is) (simp (diff-mul, diff-sub) (diff-none _ _ (omega arith)))

there-and-back : (c d : Pt) → cross_of d c c d ≡ pos 0
there-and-back c d = there-and-back-by c.x c.y d.x d.y

to-its-end-by : (ax ay cx cy dx dy : ℤ) → (cx -ℤ ax) *ℤ (dy -ℤ cy) -ℤ (cy -ℤ ay) *ℤ (dx -ℤ cx) ≡ (dx -ℤ ax) *ℤ (dy -ℤ cy) -ℤ (dy -ℤ ay) *ℤ (dx -ℤ cx)
to-its-end-by ax ay cx cy dx dy =
    let a = diff_of ax in
    let a' = diff_of ay in
    let c = diff_of cx in
    let c' = diff_of cy in
    let d = diff_of dx in
    let d' = diff_of dy in
    rw (a.is, a'.is, c.is, c'.is, d.is, d'.is) (simp (diff-mul, diff-sub) (diff-eq _ _ _ _ (omega arith)))

to-its-end : (a c d : Pt) → cross_of a c c d ≡ cross_of a d c d
to-its-end a c d = to-its-end-by a.x a.y c.x c.y d.x d.y

from-end : (e f : Edge) → IsEnd e f.from → IsWholePart e f
from-end e f (inl is) = inl (ap (λ (p : Pt). cross_of e.from p f.from f.to) is ∙ no-step e.from f.from f.to)
from-end e f (inr is) = inr (ap (λ (p : Pt). cross_of e.from p f.from f.to) is)

to-end : (e f : Edge) → IsEnd e f.to → IsWholePart e f
to-end e f (inl is) = inl (ap (λ (p : Pt). cross_of p f.from f.from f.to) (sym is) ∙ there-and-back f.from f.to)
to-end e f (inr is) = inr (to-its-end e.from f.from f.to ∙ ap (λ (p : Pt). cross_of e.from p f.from f.to) is)

whole-part : (e f : Edge) → share_end e f ≡ true → IsWholePart e f
whole-part e f h = pick (either-true (same_point f.from e.from || same_point f.from e.to) (same_point f.to e.from || same_point f.to e.to) h)
  where
    pick : ((same_point f.from e.from || same_point f.from e.to) ≡ true) ⊎ ((same_point f.to e.from || same_point f.to e.to) ≡ true) → IsWholePart e f
    pick (inl g) = from-end e f (is-end e f.from g)
    pick (inr g) = to-end e f (is-end e f.to g)

turn-not : (w : ℤ) → (int_eq w (pos 0) ≡ true → ⊥) → int_eq w (pos 0) ≡ false
turn-not w h = pick (int_eq w (pos 0)) refl
  where
    pick : (b : Bool) → int_eq w (pos 0) ≡ b → int_eq w (pos 0) ≡ false
    pick true is = absurd (h is)
    pick false is = is

at-ends-by : (e f : Edge) → int_eq (turn_of e f) (pos 0) ≡ false → IsWholePart e f → AtEnds e f
at-ends-by e f turn whole p meets =
    let crossing = crossing-taken (int_eq (turn_of e f) (pos 0)) (shared_of e f) (crossing_of e f) turn in
    in-one e p (point_at e (unsigned_abs (part_on e f)) (unsigned_abs (turn_of e f))) (is_part (part_on e f) (turn_of e f) && is_part (part_across e f) (turn_of e f))
    (point-end e f turn whole)
    (subst (λ (ps : List Pt). In p ps) crossing (in-contained p (meeting_of e f) meets))

pub turn-by-sides : (e f : Edge) (s : Sides) → AreSides e f s → s.from ≢ s.to → int_eq (turn_of e f) (pos 0) ≡ false
turn-by-sides e f s are other = turn-not (turn_of e f) (some-turn s.from s.to (turn_of e f) (sides-sum e f s are) other)

pub shared-end : (e f : Edge) (s : Sides) (r : Bool) → AreSides e f s → s.from ≢ s.to → r ≡ share_end e f → r ≡ true → AtEnds e f
shared-end e f s r are other is h = at-ends-by e f (turn-by-sides e f s are other) (whole-part e f (sym is ∙ h))

-- from the other edge

pub turn-other : (e f : Edge) → int_eq (turn_of e f) (pos 0) ≡ false → int_eq (turn_of f e) (pos 0) ≡ false
turn-other e f h = subst (λ (z : ℤ). int_eq z (pos 0) ≡ false) (sym (turn-back e.from e.to f.from f.to)) (zero-back (turn_of e f) h)

whole-part-back : (e f : Edge) → share_end e f ≡ true → IsWholePart f e
whole-part-back e f h = pick (either-true (same_point f.from e.from || same_point f.from e.to) (same_point f.to e.from || same_point f.to e.to) h)
  where
    by-first : IsEnd e f.from → IsWholePart f e
    by-first (inl is) = from-end f e (inl (sym is))
    by-first (inr is) = to-end f e (inl (sym is))

    by-last : IsEnd e f.to → IsWholePart f e
    by-last (inl is) = from-end f e (inr (sym is))
    by-last (inr is) = to-end f e (inr (sym is))

    pick : ((same_point f.from e.from || same_point f.from e.to) ≡ true) ⊎ ((same_point f.to e.from || same_point f.to e.to) ≡ true) → IsWholePart f e
    pick (inl g) = by-first (is-end e f.from g)
    pick (inr g) = by-last (is-end e f.to g)

pub shared-end-back : (e f : Edge) (s : Sides) (r : Bool) → AreSides e f s → s.from ≢ s.to → r ≡ share_end e f → r ≡ true → AtEnds f e
shared-end-back e f s r are other is h =
    at-ends-by f e (turn-other e f (turn-by-sides e f s are other)) (whole-part-back e f (sym is ∙ h))

none-back : (e f : Edge) (s : Sides) → AreSides e f s → s.from ≢ s.to → meeting_of f e ≡ [] → AtEnds e f
none-back e f s are other none = none-in e f (crossing-exchanged e f (turn-by-sides e f s are other) ∙ none)

pub one-side-back : (e f : Edge) (s : Sides) (r : Bool) → AreSides e f s → s.from ≢ s.to → r ≡ ((int_lt (pos 0) s.from && int_lt (pos 0) s.to) || (int_lt s.from (pos 0) && int_lt s.to (pos 0))) → r ≡ true → AtEnds f e
one-side-back e f s r are other is h =
    none-in f e (sym (crossing-exchanged e f (turn-by-sides e f s are other)) ∙ one-side-none e f s.from s.to are.from_is are.to_is (sym is ∙ h))

pub other-side : (e f : Edge) (s t : Sides) (r : Bool) → AreSides e f s → s.from ≢ s.to → AreSides f e t → r ≡ ((int_lt (pos 0) t.from && int_lt (pos 0) t.to) || (int_lt t.from (pos 0) && int_lt t.to (pos 0))) → r ≡ true → AtEnds e f
other-side e f s t r are other others is h = none-back e f s are other (one-side-none f e t.from t.to others.from_is others.to_is (sym is ∙ h))
