-- A meeting point lies on both of its edges, and is the same from both.
use Rattle.std.proofs.Common.{◌≡◌, ◌≢◌, ◌≤◌, ◌+◌, ◌-◌, ℕ, suc, ℤ, pos, negsuc, ◌-ℤ◌, ◌+ℤ◌, ◌*ℤ◌, ◌&&◌, Bool, true, false, cond, List, [], ◌∷◌, ◌++◌, inl, inr, ◌⊎◌, arith, refl, sym, ap, ◌∙◌, subst}
use Rattle.std.specs.Ordering.{int_eq}
use Rattle.std.specs.Int.RustNames.{unsigned_abs}
use Rattle.std.specs.List.{Contains}
use Rattle.std.specs.Cmp.{both_ways, signed_Decides}
use Rattle.std.proofs.Math.IntN.{neg_ℤ}
use Rattle.std.proofs.lemmas.Int.{ints}
use Rattle.slice_base.specs.declared.points.Pt.{Pt}
use Rattle.slice_base.specs.declared.points.Edge.{Edge}
use Rattle.slice_base.specs.Plane.{cross_of}
use Rattle.slice_base.specs.Whole.{rounded}
use Rattle.edge_cut.specs.Meeting.{is_part, is_beside, weighted, point_at, end_on, shared_of, crossing_of, meeting_of, turn_of, part_on, part_across}
use Rattle.edge_cut.specs.Crossed.{IsOnePoint, LiesOn}
use Rattle.edge_cut.specs.Ordered.{IsEnd}
use Rattle.edge_cut.proofs.Ordered.{In, in-contained}
use Rattle.slice_base.proofs.Rings.{diff, diff_of, diff-eq, diff-add, diff-sub, diff-mul}
use Rattle.edge_cut.proofs.Apart.{ring, ring-x, diff-inj, times-sum, diff-neg, negated, part-pos, part-neg, both-true, pos-is}

one-diff : (a a' b b' c c' d d' p q k l w : ℕ) → w ≡ p + k → w ≡ q + l →
    (diff b b' -ℤ diff a a') *ℤ diff p 0 -ℤ (diff d d' -ℤ diff c c') *ℤ diff q 0 ≡ (diff c c' -ℤ diff a a') *ℤ diff w 0 →
    diff a a' *ℤ diff k 0 +ℤ diff b b' *ℤ diff p 0 ≡ diff c c' *ℤ diff l 0 +ℤ diff d d' *ℤ diff q 0
one-diff a a' b b' c c' d d' p q k l w ep eq e =
    let f = simp (diff-mul, diff-sub) at e in
    let g = diff-inj _ _ _ _ f in
    let h1 = times-sum a w p k ep in
    let h2 = times-sum a' w p k ep in
    let h3 = times-sum c w q l eq in
    let h4 = times-sum c' w q l eq in
    simp (diff-mul, diff-add) (diff-eq _ _ _ _ (omega arith))

-- one coordinate of the meeting point, from e and from f
one-nat : (a b c d : ℤ) (p q w : ℕ) → p ≤ w → q ≤ w → (b -ℤ a) *ℤ pos p -ℤ (d -ℤ c) *ℤ pos q ≡ (c -ℤ a) *ℤ pos w → weighted a b p w ≡ weighted c d q w
one-nat a b c d p q w pw qw e =
    let a' = diff_of a in
    let b' = diff_of b in
    let c' = diff_of c in
    let d' = diff_of d in
    let f = rw (a'.is, b'.is, c'.is, d'.is, pos-is p, pos-is q, pos-is w) at e in
    rw (a'.is, b'.is, c'.is, d'.is, pos-is (w - p), pos-is (w - q), pos-is p, pos-is q)
    (one-diff a'.up a'.down b'.up b'.down c'.up c'.down d'.up d'.down p q (w - p) (w - q) w (omega arith) (omega arith) f)

-- the parts as numbers without a sign, whichever sign the turn has
pub record AreParts (t u w : ℤ) : Type 0 where
  pub first : unsigned_abs t ≤ unsigned_abs w
  pub second : unsigned_abs u ≤ unsigned_abs w
  pub turned : (x y z : ℤ) → x *ℤ t -ℤ y *ℤ u ≡ z *ℤ w → x *ℤ pos (unsigned_abs t) -ℤ y *ℤ pos (unsigned_abs u) ≡ z *ℤ pos (unsigned_abs w)

abs-neg : (t : ℤ) (k : ℕ) → neg_ℤ t ≡ pos k → unsigned_abs t ≡ k
abs-neg t k h = grind (arith, ints)

abs-pos : (t : ℤ) (k : ℕ) → t ≡ pos k → unsigned_abs t ≡ k
abs-pos t k h = grind (arith, ints)

parts-as : (t u w t' u' w' : ℤ) → t ≡ t' → u ≡ u' → w ≡ w' → (x y z : ℤ) → x *ℤ t -ℤ y *ℤ u ≡ z *ℤ w → x *ℤ t' -ℤ y *ℤ u' ≡ z *ℤ w'
parts-as t u w t' u' w' et eu ew x y z e = rw (← et, ← eu, ← ew) e

are-parts : (t u w : ℤ) → is_part t w ≡ true → is_part u w ≡ true → AreParts t u w
are-parts t u (pos w) tw uw =
    let p = part-pos t w tw in
    let q = part-pos u w uw in
    let ep : unsigned_abs t ≡ p.0 = abs-pos t p.0 p.1.0 in
    let eq : unsigned_abs u ≡ q.0 = abs-pos u q.0 q.1.0 in
    record {
      first = rw ep p.1.1;
      second = rw eq q.1.1;
      turned = parts-as t u (pos w) (pos (unsigned_abs t)) (pos (unsigned_abs u)) (pos w) (p.1.0 ∙ ap pos (sym ep)) (q.1.0 ∙ ap pos (sym eq)) refl;
    }
are-parts t u (negsuc w) tw uw =
    let p = part-neg t w tw in
    let q = part-neg u w uw in
    let ep : unsigned_abs t ≡ p.0 = abs-neg t p.0 p.1.0 in
    let eq : unsigned_abs u ≡ q.0 = abs-neg u q.0 q.1.0 in
    record {
      first = rw ep p.1.1;
      second = rw eq q.1.1;
      turned = λ x y z e. parts-as (neg_ℤ t) (neg_ℤ u) (pos (suc w)) (pos (unsigned_abs t)) (pos (unsigned_abs u)) (pos (suc w)) (p.1.0 ∙ ap pos (sym ep)) (q.1.0 ∙ ap pos (sym eq)) refl x y z (negated x y z t u (negsuc w) e);
    }

one-point : (e f : Edge) → (is_part (part_on e f) (turn_of e f) && is_part (part_across e f) (turn_of e f)) ≡ true → IsOnePoint e f (unsigned_abs (part_on e f)) (unsigned_abs (part_across e f)) (unsigned_abs (turn_of e f))
one-point e f both =
    let t = part_on e f in
    let u = part_across e f in
    let w = turn_of e f in
    let b = both-true (is_part t w) (is_part u w) both in
    let are = are-parts t u w b.0 b.1 in
    record {
      on_first = are.first;
      on_second = are.second;
      x = one-nat e.from.x e.to.x f.from.x f.to.x (unsigned_abs t) (unsigned_abs u) (unsigned_abs w) are.first are.second
          (are.turned (e.to.x -ℤ e.from.x) (f.to.x -ℤ f.from.x) (f.from.x -ℤ e.from.x) (ring-x e.from.x e.from.y e.to.x e.to.y f.from.x f.from.y f.to.x f.to.y));
      y = one-nat e.from.y e.to.y f.from.y f.to.y (unsigned_abs t) (unsigned_abs u) (unsigned_abs w) are.first are.second
          (are.turned (e.to.y -ℤ e.from.y) (f.to.y -ℤ f.from.y) (f.from.y -ℤ e.from.y) (ring e.from.x e.from.y e.to.x e.to.y f.from.x f.from.y f.to.x f.to.y));
    }

pub crossing-taken : (b : Bool) (ps qs : List Pt) → b ≡ false → cond b ps qs ≡ qs
crossing-taken false ps qs h = refl
crossing-taken true ps qs h = absurd (cc)

pub shared-taken : (b : Bool) (ps qs : List Pt) → b ≡ true → cond b ps qs ≡ ps
shared-taken true ps qs h = refl
shared-taken false ps qs h = absurd (cc)

some-passed : (b : Bool) (p : Pt) → cond b (p ∷ []) [] ≢ [] → b ≡ true
some-passed true p h = refl
some-passed false p h = absurd (h refl)

pub crossing-lies : (e f : Edge) → int_eq (turn_of e f) (pos 0) ≡ false → meeting_of e f ≢ [] → IsOnePoint e f (unsigned_abs (part_on e f)) (unsigned_abs (part_across e f)) (unsigned_abs (turn_of e f))
crossing-lies e f other met =
    let is = crossing-taken (int_eq (turn_of e f) (pos 0)) (shared_of e f) (crossing_of e f) other in
    one-point e f (some-passed (is_part (part_on e f) (turn_of e f) && is_part (part_across e f) (turn_of e f)) _ (subst (λ (ps : List Pt). ps ≢ []) is met))

-- from the other edge each part and the turn have the other sign

turned-back : (ax ay bx by cx cy dx dy : ℤ) →
    (dx -ℤ cx) *ℤ (by -ℤ ay) -ℤ (dy -ℤ cy) *ℤ (bx -ℤ ax) ≡ neg_ℤ ((bx -ℤ ax) *ℤ (dy -ℤ cy) -ℤ (by -ℤ ay) *ℤ (dx -ℤ cx))
turned-back ax ay bx by cx cy dx dy =
    let a = diff_of ax in
    let a' = diff_of ay in
    let b = diff_of bx in
    let b' = diff_of by in
    let c = diff_of cx in
    let c' = diff_of cy in
    let d = diff_of dx in
    let d' = diff_of dy in
    rw (a.is, a'.is, b.is, b'.is, c.is, c'.is, d.is, d'.is) (simp (diff-neg, diff-mul, diff-add) (diff-eq _ _ _ _ (omega arith)))

stepped-back : (ax ay bx by cx cy dx dy : ℤ) →
    (ax -ℤ bx) *ℤ (dy -ℤ cy) -ℤ (ay -ℤ by) *ℤ (dx -ℤ cx) ≡ neg_ℤ ((bx -ℤ ax) *ℤ (dy -ℤ cy) -ℤ (by -ℤ ay) *ℤ (dx -ℤ cx))
stepped-back ax ay bx by cx cy dx dy =
    let a = diff_of ax in
    let a' = diff_of ay in
    let b = diff_of bx in
    let b' = diff_of by in
    let c = diff_of cx in
    let c' = diff_of cy in
    let d = diff_of dx in
    let d' = diff_of dy in
    rw (a.is, a'.is, b.is, b'.is, c.is, c'.is, d.is, d'.is) (simp (diff-neg, diff-mul, diff-add) (diff-eq _ _ _ _ (omega arith)))

pub turn-back : (a b c d : Pt) → cross_of c d a b ≡ neg_ℤ (cross_of a b c d)
turn-back a b c d = turned-back a.x a.y b.x b.y c.x c.y d.x d.y

pub step-back : (a b c d : Pt) → cross_of b a c d ≡ neg_ℤ (cross_of a b c d)
step-back a b c d = stepped-back a.x a.y b.x b.y c.x c.y d.x d.y

pub neg-twice : (a : ℤ) → neg_ℤ (neg_ℤ a) ≡ a
neg-twice a = omega (arith, ints)

part-back : (t w : ℤ) → is_part t w ≡ true → is_part (neg_ℤ t) (neg_ℤ w) ≡ true
part-back t w h = grind (arith, ints)

part-either : (t w : ℤ) → is_part (neg_ℤ t) (neg_ℤ w) ≡ is_part t w
part-either t w = both_ways (is_part (neg_ℤ t) (neg_ℤ w)) (is_part t w)
    (λ h. rw (← neg-twice t, ← neg-twice w) (part-back (neg_ℤ t) (neg_ℤ w) h))
    (part-back t w)

abs-back : (a : ℤ) → unsigned_abs (neg_ℤ a) ≡ unsigned_abs a
abs-back a = grind (arith, ints)

both-either : (a b : Bool) → (b && a) ≡ (a && b)
both-either true true = refl
both-either true false = refl
both-either false true = refl
both-either false false = refl

one-or-none : (b c : Bool) (p q : Pt) → c ≡ b → (b ≡ true → p ≡ q) → cond b (p ∷ []) [] ≡ cond c (q ∷ []) []
one-or-none true true p q e f = ap (λ (r : Pt). r ∷ []) (f refl)
one-or-none false false p q e f = refl
one-or-none true false p q e f = absurd (cc)
one-or-none false true p q e f = absurd (cc)

pub zero-back : (w : ℤ) → int_eq w (pos 0) ≡ false → int_eq (neg_ℤ w) (pos 0) ≡ false
zero-back w h = grind (arith, ints)

same-rounded : (e f : Edge) (p q w : ℕ) → IsOnePoint e f p q w → point_at e p w ≡ point_at f q w
same-rounded e f p q w h = λ i. record { x = rounded (h.x i) w; y = rounded (h.y i) w }

crossing-same : (e f : Edge) (t u w : ℤ) → t ≡ neg_ℤ (part_across e f) → u ≡ neg_ℤ (part_on e f) → w ≡ neg_ℤ (turn_of e f) →
    crossing_of e f ≡ cond (is_part t w && is_part u w) (point_at f (unsigned_abs t) (unsigned_abs w) ∷ []) []
crossing-same e f t u w et eu ew =
    let on = is_part (part_on e f) (turn_of e f) in
    let across = is_part (part_across e f) (turn_of e f) in
    let tests : (is_part t w && is_part u w) ≡ (on && across) = rw (et, eu, ew, part-either (part_across e f) (turn_of e f), part-either (part_on e f) (turn_of e f)) (both-either on across) in
    one-or-none (on && across) (is_part t w && is_part u w) (point_at e (unsigned_abs (part_on e f)) (unsigned_abs (turn_of e f))) (point_at f (unsigned_abs t) (unsigned_abs w)) tests
    (λ both. rw (et, ew, abs-back (part_across e f), abs-back (turn_of e f)) (same-rounded e f (unsigned_abs (part_on e f)) (unsigned_abs (part_across e f)) (unsigned_abs (turn_of e f)) (one-point e f both)))

pub crossing-exchanged : (e f : Edge) → int_eq (turn_of e f) (pos 0) ≡ false → meeting_of e f ≡ meeting_of f e
crossing-exchanged e f other =
    let back = turn-back e.from e.to f.from f.to in
    let other' : int_eq (turn_of f e) (pos 0) ≡ false = rw back (zero-back (turn_of e f) other) in
    crossing-taken (int_eq (turn_of e f) (pos 0)) (shared_of e f) (crossing_of e f) other
    ∙ (crossing-same e f (part_on f e) (part_across f e) (turn_of f e) (step-back e.from f.from e.from e.to) (step-back e.from f.from f.from f.to) back
    ∙ sym (crossing-taken (int_eq (turn_of f e) (pos 0)) (shared_of f e) (crossing_of f e) other'))

-- parallel edges

pub cross-sum : (ax ay bx by cx cy dx dy : ℤ) →
    (bx -ℤ ax) *ℤ (dy -ℤ ay) -ℤ (by -ℤ ay) *ℤ (dx -ℤ ax) ≡ ((bx -ℤ ax) *ℤ (cy -ℤ ay) -ℤ (by -ℤ ay) *ℤ (cx -ℤ ax)) +ℤ ((bx -ℤ ax) *ℤ (dy -ℤ cy) -ℤ (by -ℤ ay) *ℤ (dx -ℤ cx))
cross-sum ax ay bx by cx cy dx dy =
    let a = diff_of ax in
    let a' = diff_of ay in
    let b = diff_of bx in
    let b' = diff_of by in
    let c = diff_of cx in
    let c' = diff_of cy in
    let d = diff_of dx in
    let d' = diff_of dy in
    rw (a.is, a'.is, b.is, b'.is, c.is, c'.is, d.is, d'.is) (simp (diff-mul, diff-sub, diff-add) (diff-eq _ _ _ _ (omega arith)))

on-line : (e f : Edge) → cross_of e.from e.to e.from f.from ≡ pos 0 → turn_of e f ≡ pos 0 → cross_of e.from e.to e.from f.to ≡ pos 0
on-line e f g h = cross-sum e.from.x e.from.y e.to.x e.to.y f.from.x f.from.y f.to.x f.to.y ∙ rw (g, h) refl

-- both facts of a shared end
abbrev pub IsShared : Edge → Edge → Pt → Type 0
IsShared e f p = LiesOn e p × IsEnd f p

end-shared : (e f : Edge) (p q : Pt) (b : Bool) → is_beside e q ≡ b → cross_of e.from e.to e.from q ≡ pos 0 → IsEnd f q → In p (cond b (q ∷ []) []) → IsShared e f p
end-shared e f p q true beside line end (inl is) = subst (λ (r : Pt). IsShared e f r) is (record { on_line = line; between = beside }, end)
end-shared e f p q true beside line end (inr h) = elim h [ ]
end-shared e f p q false beside line end h = elim h [ ]

in-one-of : (p : Pt) (ps qs : List Pt) → In p (ps ++ qs) → In p ps ⊎ In p qs
in-one-of p [] qs h = inr h
in-one-of p (r ∷ ps) qs (inl is) = inl (inl is)
in-one-of p (r ∷ ps) qs (inr h) = first-more p r ps qs (in-one-of p ps qs h)
  where
    first-more : (p r : Pt) (ps qs : List Pt) → In p ps ⊎ In p qs → In p (r ∷ ps) ⊎ In p qs
    first-more p r ps qs (inl there) = inl (inr there)
    first-more p r ps qs (inr there) = inr there

by-end : (e f : Edge) (p : Pt) → cross_of e.from e.to e.from f.from ≡ pos 0 → turn_of e f ≡ pos 0 → In p (end_on e f.from) ⊎ In p (end_on e f.to) → IsShared e f p
by-end e f p line turn (inl h) = end-shared e f p f.from (is_beside e f.from) refl line (inl refl) h
by-end e f p line turn (inr h) = end-shared e f p f.to (is_beside e f.to) refl (on-line e f line turn) (inr refl) h

by-line : (e f : Edge) (p : Pt) (b : Bool) → int_eq (cross_of e.from e.to e.from f.from) (pos 0) ≡ b → turn_of e f ≡ pos 0 → In p (cond b (end_on e f.from ++ end_on e f.to) []) → IsShared e f p
by-line e f p true on turn h = by-end e f p ((signed_Decides (cross_of e.from e.to e.from f.from) (pos 0)).0 on) turn (in-one-of p (end_on e f.from) (end_on e f.to) h)
by-line e f p false on turn h = elim h [ ]

pub shared-lies : (e f : Edge) → int_eq (turn_of e f) (pos 0) ≡ true → (p : Pt) → Contains (meeting_of e f) p → IsShared e f p
shared-lies e f parallel p h =
    let is = shared-taken (int_eq (turn_of e f) (pos 0)) (shared_of e f) (crossing_of e f) parallel in
    by-line e f p (int_eq (cross_of e.from e.to e.from f.from) (pos 0)) refl ((signed_Decides (turn_of e f) (pos 0)).0 parallel)
    (subst (λ (ps : List Pt). In p ps) is (in-contained p (meeting_of e f) h))
