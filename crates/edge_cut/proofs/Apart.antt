-- Edges whose heights are apart don't meet: what an index over heights needs.
use Rattle.std.proofs.Common.{◌≡◌, ◌≤◌, ◌<◌, ◌+◌, ◌-◌, ◌*◌, ℕ, zero, suc, ℤ, pos, negsuc, ◌-ℤ◌, ◌*ℤ◌, ◌≤ℤ◌, ◌<ℤ◌, ◌&&◌, Bool, true, false, cond, List, [], ◌∷◌, ◌++◌, arith, refl}
use Rattle.std.specs.Ordering.{int_eq}
use Rattle.std.proofs.Math.IntN.{neg_ℤ}
use Rattle.std.proofs.lemmas.Int.{ints}
use Rattle.slice_base.specs.declared.points.Pt.{Pt}
use Rattle.slice_base.specs.declared.points.Edge.{Edge}
use Rattle.slice_base.specs.Plane.{cross_of}
use Rattle.edge_cut.specs.Meeting.{is_between, is_part, is_beside, end_on, shared_of, crossing_of, meeting_of, turn_of, part_on, part_across}
use Rattle.slice_base.proofs.Rings.{diff, diff_of, diff-eq, diff-add, diff-sub, diff-mul}

-- the meeting point's height, from e and from f
pub ring : (ax ay bx by cx cy dx dy : ℤ) →
    let t = (cx -ℤ ax) *ℤ (dy -ℤ cy) -ℤ (cy -ℤ ay) *ℤ (dx -ℤ cx) in
    let u = (cx -ℤ ax) *ℤ (by -ℤ ay) -ℤ (cy -ℤ ay) *ℤ (bx -ℤ ax) in
    let w = (bx -ℤ ax) *ℤ (dy -ℤ cy) -ℤ (by -ℤ ay) *ℤ (dx -ℤ cx) in
    (by -ℤ ay) *ℤ t -ℤ (dy -ℤ cy) *ℤ u ≡ (cy -ℤ ay) *ℤ w
ring ax ay bx by cx cy dx dy =
    let a = diff_of ax in
    let a' = diff_of ay in
    let b = diff_of bx in
    let b' = diff_of by in
    let c = diff_of cx in
    let c' = diff_of cy in
    let d = diff_of dx in
    let d' = diff_of dy in
    rw (a.is, a'.is, b.is, b'.is, c.is, c'.is, d.is, d'.is) (simp (diff-mul, diff-sub) (diff-eq _ _ _ _ (omega arith)))

pub diff-inj : (p q r s : ℕ) → diff p q ≡ diff r s → p + s ≡ r + q
unfolding diff
diff-inj p q r s e = omega (arith, ints)

by-nat : (x y : ℤ) → x ≤ℤ y → (k : ℕ) × (x ≡ y -ℤ pos k)
by-nat (pos x) (pos y) le = (y - x, omega (arith, ints))
by-nat (pos x) (negsuc y) le = absurd (omega (arith, ints))
by-nat (negsuc x) (pos y) le = (suc x + y, omega (arith, ints))
by-nat (negsuc x) (negsuc y) le = (x - y, omega (arith, ints))

less-by : (x y : ℤ) → x <ℤ y → (k : ℕ) × (x ≡ y -ℤ pos (suc k))
less-by (pos x) (pos y) le = (y - suc x, omega (arith, ints))
less-by (pos x) (negsuc y) le = absurd (omega (arith, ints))
less-by (negsuc x) (pos y) le = (x + y, omega (arith, ints))
less-by (negsuc x) (negsuc y) le = (x - suc y, omega (arith, ints))

gap : (x y m : ℤ) (p q : ℕ) → x ≡ m -ℤ pos p → y ≡ m -ℤ pos q → x -ℤ y ≡ diff q p
unfolding diff
gap x y m p q ex ey = omega (arith, ints)

gap-over : (x y m : ℤ) (p q : ℕ) → m ≡ x -ℤ pos p → m ≡ y -ℤ pos q → x -ℤ y ≡ diff p q
unfolding diff
gap-over x y m p q ex ey = omega (arith, ints)

gap-across : (x y m : ℤ) (p q : ℕ) → m ≡ x -ℤ pos p → y ≡ m -ℤ pos q → x -ℤ y ≡ diff (p + q) 0
unfolding diff
gap-across x y m p q ex ey = omega (arith, ints)

pub pos-is : (t : ℕ) → pos t ≡ diff t 0
unfolding diff
pos-is t = omega (arith, ints)

pub times-sum : (c w u u' : ℕ) → w ≡ u + u' → c * w ≡ c * u + c * u'
times-sum c w u u' e = rw e (omega arith)

none-nat : (a b c d t t' u u' w : ℕ) → w ≡ t + t' → w ≡ u + u' → 0 < w → a * t + suc c * u ≡ (suc c + a) * w + b * t + suc d * u → ⊥
none-nat a b c d t t' u u' w et eu some e =
    let f = times-sum (suc c) w u u' eu in
    let g = times-sum a w t t' et in
    let h : (suc c + a) * w ≡ suc c * w + a * w = omega arith in
    omega arith

none-diff : (a b c d t u w : ℕ) → t ≤ w → u ≤ w → 0 < w → diff a b *ℤ diff t 0 -ℤ diff (suc d) (suc c) *ℤ diff u 0 ≡ diff (suc c + a) 0 *ℤ diff w 0 → ⊥
none-diff a b c d t u w tw uw some e =
    let f = simp (diff-mul, diff-sub) at e in
    let g = diff-inj _ _ _ _ f in
    none-nat a b c d t (w - t) u (w - u) w (omega arith) (omega arith) some (omega arith)

-- the same part of the way up e, which is at m or below, and up f, which is above m
no-meeting : (a b c d m : ℤ) (t u w : ℕ) → a ≤ℤ m → b ≤ℤ m → m <ℤ c → m <ℤ d → t ≤ w → u ≤ w → 0 < w → (b -ℤ a) *ℤ pos t -ℤ (d -ℤ c) *ℤ pos u ≡ (c -ℤ a) *ℤ pos w → ⊥
no-meeting a b c d m t u w am bm mc md tw uw some e =
    let pa = by-nat a m am in
    let pb = by-nat b m bm in
    let pc = less-by m c mc in
    let pd = less-by m d md in
    let g : b -ℤ a ≡ diff pa.0 pb.0 = gap b a m pb.0 pa.0 pb.1 pa.1 in
    let h : d -ℤ c ≡ diff (suc pd.0) (suc pc.0) = gap-over d c m (suc pd.0) (suc pc.0) pd.1 pc.1 in
    let k : c -ℤ a ≡ diff (suc pc.0 + pa.0) 0 = gap-across c a m (suc pc.0) pa.0 pc.1 pa.1 in
    none-diff pa.0 pb.0 pc.0 pd.0 t u w tw uw some (products (b -ℤ a) (d -ℤ c) (c -ℤ a) (pos t) (pos u) (pos w) (diff pa.0 pb.0) (diff (suc pd.0) (suc pc.0)) (diff (suc pc.0 + pa.0) 0) (diff t 0) (diff u 0) (diff w 0) g h k (pos-is t) (pos-is u) (pos-is w) e)
  where
    products : (x y z t u w x' y' z' t' u' w' : ℤ) → x ≡ x' → y ≡ y' → z ≡ z' → t ≡ t' → u ≡ u' → w ≡ w' → x *ℤ t -ℤ y *ℤ u ≡ z *ℤ w → x' *ℤ t' -ℤ y' *ℤ u' ≡ z' *ℤ w'
    products x y z t u w x' y' z' t' u' w' ex ey ez et eu ew e = rw (← ex, ← ey, ← ez, ← et, ← eu, ← ew) e

pub diff-neg : (p q : ℕ) → neg_ℤ (diff p q) ≡ diff q p
unfolding diff
diff-neg p q = omega (arith, ints)

negated-diff : (x x' y y' z z' t t' u u' w w' : ℕ) → diff x x' *ℤ diff t t' -ℤ diff y y' *ℤ diff u u' ≡ diff z z' *ℤ diff w w' → diff x x' *ℤ neg_ℤ (diff t t') -ℤ diff y y' *ℤ neg_ℤ (diff u u') ≡ diff z z' *ℤ neg_ℤ (diff w w')
negated-diff x x' y y' z z' t t' u u' w w' e =
    let f = simp (diff-mul, diff-sub) at e in
    let g = diff-inj _ _ _ _ f in
    simp (diff-neg, diff-mul, diff-add) (diff-eq _ _ _ _ (omega arith))

pub negated : (x y z t u w : ℤ) → x *ℤ t -ℤ y *ℤ u ≡ z *ℤ w → x *ℤ neg_ℤ t -ℤ y *ℤ neg_ℤ u ≡ z *ℤ neg_ℤ w
negated x y z t u w e =
    let x' = diff_of x in
    let y' = diff_of y in
    let z' = diff_of z in
    let t' = diff_of t in
    let u' = diff_of u in
    let w' = diff_of w in
    let f = rw (x'.is, y'.is, z'.is, t'.is, u'.is, w'.is) at e in
    rw (x'.is, y'.is, z'.is, t'.is, u'.is, w'.is) (negated-diff x'.up x'.down y'.up y'.down z'.up z'.down t'.up t'.down u'.up u'.down w'.up w'.down f)

pub part-pos : (t : ℤ) (w : ℕ) → is_part t (pos w) ≡ true → (k : ℕ) × ((t ≡ pos k) × (k ≤ w))
part-pos (pos t) w h = (t, (refl, grind (arith, ints)))
part-pos (negsuc t) w h = absurd (grind (arith, ints))

pub part-neg : (t : ℤ) (w : ℕ) → is_part t (negsuc w) ≡ true → (k : ℕ) × ((neg_ℤ t ≡ pos k) × (k ≤ suc w))
part-neg (pos t) w h = (0, (grind (arith, ints), omega arith))
part-neg (negsuc t) w h = (suc t, (refl, grind (arith, ints)))

no-part : (a b c d m t u w : ℤ) → a ≤ℤ m → b ≤ℤ m → m <ℤ c → m <ℤ d → is_part t w ≡ true → is_part u w ≡ true → int_eq w (pos 0) ≡ false → (b -ℤ a) *ℤ t -ℤ (d -ℤ c) *ℤ u ≡ (c -ℤ a) *ℤ w → ⊥
no-part a b c d m t u (pos zero) am bm mc md tw uw other e = absurd (cc)
no-part a b c d m t u (pos (suc w)) am bm mc md tw uw other e =
    let p = part-pos t (suc w) tw in
    let q = part-pos u (suc w) uw in
    no-meeting a b c d m p.0 q.0 (suc w) am bm mc md p.1.1 q.1.1 (omega arith) (rw (p.1.0, q.1.0) at e)
no-part a b c d m t u (negsuc w) am bm mc md tw uw other e =
    let p = part-neg t w tw in
    let q = part-neg u w uw in
    let f : (b -ℤ a) *ℤ neg_ℤ t -ℤ (d -ℤ c) *ℤ neg_ℤ u ≡ (c -ℤ a) *ℤ pos (suc w) = negated (b -ℤ a) (d -ℤ c) (c -ℤ a) t u (negsuc w) e in
    no-meeting a b c d m p.0 q.0 (suc w) am bm mc md p.1.1 q.1.1 (omega arith) (rw (p.1.0, q.1.0) at f)

pub both-true : (a b : Bool) → (a && b) ≡ true → (a ≡ true) × (b ≡ true)
both-true true b h = (refl, h)
both-true false b h = absurd (cc)

-- e is at m or below, and f above m
pub record IsBelow (m : ℤ) (e f : Edge) : Type 0 where
  pub from_at : e.from.y ≤ℤ m
  pub to_at : e.to.y ≤ℤ m
  pub from_above : m <ℤ f.from.y
  pub to_above : m <ℤ f.to.y

not-crossing : (e f : Edge) (m : ℤ) → IsBelow m e f → int_eq (turn_of e f) (pos 0) ≡ false → (is_part (part_on e f) (turn_of e f) && is_part (part_across e f) (turn_of e f)) ≡ true → ⊥
not-crossing e f m below other both =
    let b = both-true (is_part (part_on e f) (turn_of e f)) (is_part (part_across e f) (turn_of e f)) both in
    no-part e.from.y e.to.y f.from.y f.to.y m (part_on e f) (part_across e f) (turn_of e f) below.from_at below.to_at below.from_above below.to_above b.0 b.1 other
    (ring e.from.x e.from.y e.to.x e.to.y f.from.x f.from.y f.to.x f.to.y)

pub none-if : (b : Bool) (p : Pt) → (b ≡ true → ⊥) → cond b (p ∷ []) [] ≡ []
none-if true p h = absurd (h refl)
none-if false p h = refl

not-between : (a x b m : ℤ) → a ≤ℤ m → b ≤ℤ m → m <ℤ x → is_between a x b ≡ true → ⊥
not-between a x b m am bm mx h = grind (arith, ints)

not-along : (e : Edge) (p : Pt) (m : ℤ) → e.from.y ≤ℤ m → e.to.y ≤ℤ m → m <ℤ p.y → end_on e p ≡ []
not-along e p m am bm mp = none-if (is_beside e p) p (λ h. not-between e.from.y p.y e.to.y m am bm mp (both-true (is_between e.from.x p.x e.to.x) (is_between e.from.y p.y e.to.y) h).1)

pub by-bool : (b : Bool) (xs ys : List Pt) → (b ≡ true → xs ≡ []) → (b ≡ false → ys ≡ []) → cond b xs ys ≡ []
by-bool true xs ys p q = p refl
by-bool false xs ys p q = q refl

-- what an index over heights needs: edges whose heights are apart don't meet
pub meetings-below : (e f : Edge) (m : ℤ) → IsBelow m e f → meeting_of e f ≡ []
meetings-below e f m below = by-bool (int_eq (turn_of e f) (pos 0)) (shared_of e f) (crossing_of e f)
    (λ h. by-bool (int_eq (cross_of e.from e.to e.from f.from) (pos 0)) (end_on e f.from ++ end_on e f.to) []
    (λ g. rw (not-along e f.from m below.from_at below.to_at below.from_above, not-along e f.to m below.from_at below.to_at below.to_above)) (λ g. refl))
    (λ h. none-if (is_part (part_on e f) (turn_of e f) && is_part (part_across e f) (turn_of e f)) _ (not-crossing e f m below h))

-- the mirror case

flipped-diff : (x x' y y' z z' t t' u u' w w' : ℕ) → diff x x' *ℤ diff t t' -ℤ diff y y' *ℤ diff u u' ≡ diff z z' *ℤ diff w w' → diff x' x *ℤ diff t t' -ℤ diff y' y *ℤ diff u u' ≡ diff z' z *ℤ diff w w'
flipped-diff x x' y y' z z' t t' u u' w w' e =
    let f = simp (diff-mul, diff-sub) at e in
    let g = diff-inj _ _ _ _ f in
    simp (diff-mul, diff-sub) (diff-eq _ _ _ _ (omega arith))

flipped : (x y z t u w : ℤ) → x *ℤ t -ℤ y *ℤ u ≡ z *ℤ w → neg_ℤ x *ℤ t -ℤ neg_ℤ y *ℤ u ≡ neg_ℤ z *ℤ w
flipped x y z t u w e =
    let x' = diff_of x in
    let y' = diff_of y in
    let z' = diff_of z in
    let t' = diff_of t in
    let u' = diff_of u in
    let w' = diff_of w in
    let f = rw (x'.is, y'.is, z'.is, t'.is, u'.is, w'.is) at e in
    rw (x'.is, y'.is, z'.is, t'.is, u'.is, w'.is) (rw (diff-neg x'.up x'.down, diff-neg y'.up y'.down, diff-neg z'.up z'.down) (flipped-diff x'.up x'.down y'.up y'.down z'.up z'.down t'.up t'.down u'.up u'.down w'.up w'.down f))

neg-sub : (b a : ℤ) → neg_ℤ (b -ℤ a) ≡ neg_ℤ b -ℤ neg_ℤ a
neg-sub b a = omega (arith, ints)

neg-le : (a m : ℤ) → m <ℤ a → neg_ℤ a ≤ℤ (neg_ℤ m -ℤ pos 1)
neg-le a m h = omega (arith, ints)

neg-less : (c m : ℤ) → c ≤ℤ m → (neg_ℤ m -ℤ pos 1) <ℤ neg_ℤ c
neg-less c m h = omega (arith, ints)

no-part-above : (a b c d m t u w : ℤ) → m <ℤ a → m <ℤ b → c ≤ℤ m → d ≤ℤ m → is_part t w ≡ true → is_part u w ≡ true → int_eq w (pos 0) ≡ false → (b -ℤ a) *ℤ t -ℤ (d -ℤ c) *ℤ u ≡ (c -ℤ a) *ℤ w → ⊥
no-part-above a b c d m t u w am bm mc md tw uw other e =
    no-part (neg_ℤ a) (neg_ℤ b) (neg_ℤ c) (neg_ℤ d) (neg_ℤ m -ℤ pos 1) t u w (neg-le a m am) (neg-le b m bm) (neg-less c m mc) (neg-less d m md) tw uw other
    (rw (← neg-sub b a, ← neg-sub d c, ← neg-sub c a) (flipped (b -ℤ a) (d -ℤ c) (c -ℤ a) t u w e))

-- e is above m, and f at m or below
pub record IsAbove (m : ℤ) (e f : Edge) : Type 0 where
  pub from_above : m <ℤ e.from.y
  pub to_above : m <ℤ e.to.y
  pub from_at : f.from.y ≤ℤ m
  pub to_at : f.to.y ≤ℤ m

not-crossing-above : (e f : Edge) (m : ℤ) → IsAbove m e f → int_eq (turn_of e f) (pos 0) ≡ false → (is_part (part_on e f) (turn_of e f) && is_part (part_across e f) (turn_of e f)) ≡ true → ⊥
not-crossing-above e f m above other both =
    let b = both-true (is_part (part_on e f) (turn_of e f)) (is_part (part_across e f) (turn_of e f)) both in
    no-part-above e.from.y e.to.y f.from.y f.to.y m (part_on e f) (part_across e f) (turn_of e f) above.from_above above.to_above above.from_at above.to_at b.0 b.1 other
    (ring e.from.x e.from.y e.to.x e.to.y f.from.x f.from.y f.to.x f.to.y)

not-between-above : (a x b m : ℤ) → m <ℤ a → m <ℤ b → x ≤ℤ m → is_between a x b ≡ true → ⊥
not-between-above a x b m am bm mx h = grind (arith, ints)

not-along-above : (e : Edge) (p : Pt) (m : ℤ) → m <ℤ e.from.y → m <ℤ e.to.y → p.y ≤ℤ m → end_on e p ≡ []
not-along-above e p m am bm mp = none-if (is_beside e p) p (λ h. not-between-above e.from.y p.y e.to.y m am bm mp (both-true (is_between e.from.x p.x e.to.x) (is_between e.from.y p.y e.to.y) h).1)

pub meetings-above : (e f : Edge) (m : ℤ) → IsAbove m e f → meeting_of e f ≡ []
meetings-above e f m above = by-bool (int_eq (turn_of e f) (pos 0)) (shared_of e f) (crossing_of e f)
    (λ h. by-bool (int_eq (cross_of e.from e.to e.from f.from) (pos 0)) (end_on e f.from ++ end_on e f.to) []
    (λ g. rw (not-along-above e f.from m above.from_above above.to_above above.from_at, not-along-above e f.to m above.from_above above.to_above above.to_at)) (λ g. refl))
    (λ h. none-if (is_part (part_on e f) (turn_of e f) && is_part (part_across e f) (turn_of e f)) _ (not-crossing-above e f m above h))

-- the same for x

pub ring-x : (ax ay bx by cx cy dx dy : ℤ) →
    let t = (cx -ℤ ax) *ℤ (dy -ℤ cy) -ℤ (cy -ℤ ay) *ℤ (dx -ℤ cx) in
    let u = (cx -ℤ ax) *ℤ (by -ℤ ay) -ℤ (cy -ℤ ay) *ℤ (bx -ℤ ax) in
    let w = (bx -ℤ ax) *ℤ (dy -ℤ cy) -ℤ (by -ℤ ay) *ℤ (dx -ℤ cx) in
    (bx -ℤ ax) *ℤ t -ℤ (dx -ℤ cx) *ℤ u ≡ (cx -ℤ ax) *ℤ w
ring-x ax ay bx by cx cy dx dy =
    let a = diff_of ax in
    let a' = diff_of ay in
    let b = diff_of bx in
    let b' = diff_of by in
    let c = diff_of cx in
    let c' = diff_of cy in
    let d = diff_of dx in
    let d' = diff_of dy in
    rw (a.is, a'.is, b.is, b'.is, c.is, c'.is, d.is, d'.is) (simp (diff-mul, diff-sub) (diff-eq _ _ _ _ (omega arith)))

-- e is at m or to its left, and f to the right of m
pub record IsLeft (m : ℤ) (e f : Edge) : Type 0 where
  pub from_at : e.from.x ≤ℤ m
  pub to_at : e.to.x ≤ℤ m
  pub from_right : m <ℤ f.from.x
  pub to_right : m <ℤ f.to.x

-- e is to the right of m, and f at m or to its left
pub record IsRight (m : ℤ) (e f : Edge) : Type 0 where
  pub from_right : m <ℤ e.from.x
  pub to_right : m <ℤ e.to.x
  pub from_at : f.from.x ≤ℤ m
  pub to_at : f.to.x ≤ℤ m

not-crossing-left : (e f : Edge) (m : ℤ) → IsLeft m e f → int_eq (turn_of e f) (pos 0) ≡ false → (is_part (part_on e f) (turn_of e f) && is_part (part_across e f) (turn_of e f)) ≡ true → ⊥
not-crossing-left e f m left other both =
    let b = both-true (is_part (part_on e f) (turn_of e f)) (is_part (part_across e f) (turn_of e f)) both in
    no-part e.from.x e.to.x f.from.x f.to.x m (part_on e f) (part_across e f) (turn_of e f) left.from_at left.to_at left.from_right left.to_right b.0 b.1 other
    (ring-x e.from.x e.from.y e.to.x e.to.y f.from.x f.from.y f.to.x f.to.y)

not-crossing-right : (e f : Edge) (m : ℤ) → IsRight m e f → int_eq (turn_of e f) (pos 0) ≡ false → (is_part (part_on e f) (turn_of e f) && is_part (part_across e f) (turn_of e f)) ≡ true → ⊥
not-crossing-right e f m right other both =
    let b = both-true (is_part (part_on e f) (turn_of e f)) (is_part (part_across e f) (turn_of e f)) both in
    no-part-above e.from.x e.to.x f.from.x f.to.x m (part_on e f) (part_across e f) (turn_of e f) right.from_right right.to_right right.from_at right.to_at b.0 b.1 other
    (ring-x e.from.x e.from.y e.to.x e.to.y f.from.x f.from.y f.to.x f.to.y)

not-along-left : (e : Edge) (p : Pt) (m : ℤ) → e.from.x ≤ℤ m → e.to.x ≤ℤ m → m <ℤ p.x → end_on e p ≡ []
not-along-left e p m am bm mp = none-if (is_beside e p) p (λ h. not-between e.from.x p.x e.to.x m am bm mp (both-true (is_between e.from.x p.x e.to.x) (is_between e.from.y p.y e.to.y) h).0)

not-along-right : (e : Edge) (p : Pt) (m : ℤ) → m <ℤ e.from.x → m <ℤ e.to.x → p.x ≤ℤ m → end_on e p ≡ []
not-along-right e p m am bm mp = none-if (is_beside e p) p (λ h. not-between-above e.from.x p.x e.to.x m am bm mp (both-true (is_between e.from.x p.x e.to.x) (is_between e.from.y p.y e.to.y) h).0)

pub meetings-left : (e f : Edge) (m : ℤ) → IsLeft m e f → meeting_of e f ≡ []
meetings-left e f m left = by-bool (int_eq (turn_of e f) (pos 0)) (shared_of e f) (crossing_of e f)
    (λ h. by-bool (int_eq (cross_of e.from e.to e.from f.from) (pos 0)) (end_on e f.from ++ end_on e f.to) []
    (λ g. rw (not-along-left e f.from m left.from_at left.to_at left.from_right, not-along-left e f.to m left.from_at left.to_at left.to_right)) (λ g. refl))
    (λ h. none-if (is_part (part_on e f) (turn_of e f) && is_part (part_across e f) (turn_of e f)) _ (not-crossing-left e f m left h))

pub meetings-right : (e f : Edge) (m : ℤ) → IsRight m e f → meeting_of e f ≡ []
meetings-right e f m right = by-bool (int_eq (turn_of e f) (pos 0)) (shared_of e f) (crossing_of e f)
    (λ h. by-bool (int_eq (cross_of e.from e.to e.from f.from) (pos 0)) (end_on e f.from ++ end_on e f.to) []
    (λ g. rw (not-along-right e f.from m right.from_right right.to_right right.from_at, not-along-right e f.to m right.from_right right.to_right right.to_at)) (λ g. refl))
    (λ h. none-if (is_part (part_on e f) (turn_of e f) && is_part (part_across e f) (turn_of e f)) _ (not-crossing-right e f m right h))
