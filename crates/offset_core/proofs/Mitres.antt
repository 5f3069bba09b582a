-- A mitre is no longer than three times the distance, along each axis.
use Rattle.std.proofs.Common.{true, int_le, ◌<ℤ◌, ◌≡◌, ◌<◌, ◌≤◌, ◌+◌, ◌*◌, ◌-◌, ℕ, zero, suc, ℤ, pos, negsuc, ◌+ℤ◌, ◌-ℤ◌, ◌*ℤ◌, ◌≤ℤ◌, ◌⊎◌, inl, inr, unsigned_abs, arith, refl, sym, ap, subst, ◌∙◌}
use Rattle.std.proofs.lemmas.Int.{ints, unsigned_abs-mul}
use Rattle.std.proofs.Math.Nat.{mul-le-mul, mul-le-mul_right}
use Rattle.std.proofs.Math.IntN.{+ℤ_comm}
use Rattle.slice_base.specs.Whole.{rounded}
use Rattle.offset_core.specs.Corners.{mitre_of, is_near}
use Rattle.offset_core.proofs.Parts.{rounded-le}

-- m and n of h, by what is left of h
same_parts : (m n u v : ℕ) → m + u ≡ n + v → (m + n) * (m + u) ≤ (m + u) * (m + u) + m * n
same_parts m n u v e =
    let e1 : m * (m + u) ≡ m * (n + v) = ap (λ (k : ℕ). m * k) e in
    let e2 : (m + u) * (m + u) ≡ (m + u) * (n + v) = ap (λ (k : ℕ). (m + u) * k) e in
    omega arith

same : (h m n : ℕ) → m ≤ h → n ≤ h → (m + n) * h ≤ h * h + m * n
same h m n lm ln =
    let u : ℕ = h - m in
    let v : ℕ = h - n in
    let eu : m + u ≡ h = omega arith in
    let ev : n + v ≡ h = omega arith in
    subst (λ (k : ℕ). (m + n) * k ≤ k * k + m * n) eu (same_parts m n u v (eu ∙ sym ev))

more_parts : (n k u : ℕ) → k * (n + k + u) + (n + k) * n ≤ (n + k + u) * (n + k + u)
more_parts n k u = omega arith

-- m and n of different signs
more : (h m n k : ℕ) → n + k ≡ m → m ≤ h → k * h + m * n ≤ h * h
more h m n k e lm =
    let u : ℕ = h - m in
    let eu : n + k + u ≡ h = omega arith in
    subst (λ (j : ℕ). k * j + m * n ≤ j * j) eu (subst (λ (j : ℕ). k * (n + k + u) + j * n ≤ (n + k + u) * (n + k + u)) e (more_parts n k u))

or_more : (m n : ℕ) → ((k : ℕ) × (n + k ≡ m)) ⊎ ((k : ℕ) × (m + k ≡ n))
or_more zero n = inr (n, omega arith)
or_more (suc m) zero = inl (suc m, omega arith)
or_more (suc m) (suc n) = elim (or_more m n) as (λ _. ((k : ℕ) × (suc n + k ≡ suc m)) ⊎ ((k : ℕ) × (suc m + k ≡ suc n))) [ inl h ↦ inl (h.0, omega (arith, h.1)) | inr h ↦ inr (h.0, omega (arith, h.1)) ]

-- s is the greater of the two parts less the other
opposite : (h m n : ℕ) → m ≤ h → n ≤ h → unsigned_abs (pos m -ℤ pos n) * h + m * n ≤ h * h
opposite h m n lm ln = elim (or_more m n) as (λ _. unsigned_abs (pos m -ℤ pos n) * h + m * n ≤ h * h) [
  | inl w ↦
      let k : ℕ = w.0 in
      let e : n + k ≡ m = w.1 in
      let a : unsigned_abs (pos m -ℤ pos n) ≡ k = omega (arith, ints) in
      subst (λ (j : ℕ). j * h + m * n ≤ h * h) (sym a) (more h m n k e lm)
  | inr w ↦
      let k : ℕ = w.0 in
      let e : m + k ≡ n = w.1 in
      let a : unsigned_abs (pos m -ℤ pos n) ≡ k = omega (arith, ints) in
      let t : k * h + n * m ≤ h * h = more h n m k e ln in
      subst (λ (j : ℕ). j * h + m * n ≤ h * h) (sym a) (omega arith)
]

-- of two parts within h: the sum times h is no more than the square of h and the product of the parts
sum_within : (h : ℕ) (a b : ℤ) → unsigned_abs a ≤ h → unsigned_abs b ≤ h → pos (unsigned_abs (a +ℤ b) * h) ≤ℤ (pos (h * h) +ℤ a *ℤ b)
sum_within h (pos m) (pos n) la lb = let t = same h m n la lb in omega (arith, ints)
sum_within h (negsuc m) (negsuc n) la lb = let t = same h (suc m) (suc n) la lb in omega (arith, ints)
sum_within h (pos m) (negsuc n) la lb = let t = opposite h m (suc n) la lb in omega (arith, ints)
sum_within h (negsuc m) (pos n) la lb = let t = opposite h n (suc m) lb la in omega (arith, ints)

-- ---- a mitre

pub square-is : (d : ℤ) → d *ℤ d ≡ pos (unsigned_abs d * unsigned_abs d)
square-is (pos n) = refl
square-is (negsuc n) = refl

abs-mul_le : (h : ℕ) (e f : ℤ) → unsigned_abs e ≤ h → unsigned_abs f ≤ h → unsigned_abs (e *ℤ f) ≤ h * h
abs-mul_le h e f le lf =
    let t : unsigned_abs e * unsigned_abs f ≤ h * h = mul-le-mul le lf in
    subst (λ (k : ℕ). k ≤ h * h) (sym (unsigned_abs-mul e f)) t

-- the sum of two parts, times the distance, is at most three times the reach
three_times : (s h : ℕ) (p q r : ℤ) → pos (s * h) ≤ℤ (pos (h * h) +ℤ p) → unsigned_abs q ≤ h * h → pos (h * h) ≤ℤ (r +ℤ r) → r ≡ pos (h * h) +ℤ (p +ℤ q) → s * h ≤ 3 * unsigned_abs r
three_times s h p q r sum small near is = omega (arith, ints)

pub reach_some : (h : ℕ) (r : ℤ) → 0 < h → pos (h * h) ≤ℤ (r +ℤ r) → 0 < unsigned_abs r
reach_some zero r some near = elim some [ ]
reach_some (suc h) r some near = omega (arith, ints)

mitre_within : (s h : ℕ) (z : ℤ) (w : ℕ) → unsigned_abs z ≡ s * (h * h) → s * h ≤ 3 * w → unsigned_abs z ≤ w * (3 * h)
mitre_within s h z w is le =
    let t : (s * h) * h ≤ (3 * w) * h = mul-le-mul_right h le in
    omega arith

pub mitre_of-le : (d a b e f r : ℤ) → 0 < unsigned_abs d → unsigned_abs a ≤ unsigned_abs d → unsigned_abs b ≤ unsigned_abs d → unsigned_abs e ≤ unsigned_abs d → unsigned_abs f ≤ unsigned_abs d
    → r ≡ d *ℤ d +ℤ (a *ℤ b +ℤ e *ℤ f) → (d *ℤ d) ≤ℤ (r +ℤ r) → unsigned_abs (mitre_of d r a b) ≤ 3 * unsigned_abs d
mitre_of-le d a b e f r some la lb le lf is near =
    let h : ℕ = unsigned_abs d in
    let is' : r ≡ pos (h * h) +ℤ (a *ℤ b +ℤ e *ℤ f) = subst (λ (z : ℤ). r ≡ z +ℤ (a *ℤ b +ℤ e *ℤ f)) (square-is d) is in
    let near' : pos (h * h) ≤ℤ (r +ℤ r) = subst (λ (z : ℤ). z ≤ℤ (r +ℤ r)) (square-is d) near in
    let t : unsigned_abs (a +ℤ b) * h ≤ 3 * unsigned_abs r = three_times (unsigned_abs (a +ℤ b)) h (a *ℤ b) (e *ℤ f) r (sum_within h a b la lb) (abs-mul_le h e f le lf) near' is' in
    let z : ℤ = (a +ℤ b) *ℤ (d *ℤ d) in
    let e1 : unsigned_abs z ≡ unsigned_abs (a +ℤ b) * (h * h) = unsigned_abs-mul (a +ℤ b) (d *ℤ d) ∙ ap (λ (k : ℕ). unsigned_abs (a +ℤ b) * k) (unsigned_abs-mul d d) in
    rounded-le z (unsigned_abs r) (3 * h) (reach_some h r some near') (mitre_within (unsigned_abs (a +ℤ b)) h z (unsigned_abs r) e1 t)

-- as the code has it
pub mitre_is : (d r m n s q t z : ℤ) → s ≡ m +ℤ n → q ≡ d *ℤ d → t ≡ s *ℤ q → z ≡ rounded t (unsigned_abs r) → z ≡ mitre_of d r m n
mitre_is d r m n s q t z es eq et ez =
    ez ∙ ap (λ (k : ℤ). rounded k (unsigned_abs r)) (et ∙ (ap (λ (k : ℤ). k *ℤ q) es ∙ ap (λ (k : ℤ). (m +ℤ n) *ℤ k) eq))

-- the other axis
pub mitre_of-le_y : (d a b e f r : ℤ) → 0 < unsigned_abs d → unsigned_abs a ≤ unsigned_abs d → unsigned_abs b ≤ unsigned_abs d → unsigned_abs e ≤ unsigned_abs d → unsigned_abs f ≤ unsigned_abs d
    → r ≡ d *ℤ d +ℤ (a *ℤ b +ℤ e *ℤ f) → (d *ℤ d) ≤ℤ (r +ℤ r) → unsigned_abs (mitre_of d r e f) ≤ 3 * unsigned_abs d
mitre_of-le_y d a b e f r some la lb le lf is near = mitre_of-le d e f a b r some le lf la lb (is ∙ ap (λ (z : ℤ). d *ℤ d +ℤ z) (+ℤ_comm (a *ℤ b) (e *ℤ f))) near

le_from_test : (x y : ℤ) → int_le x y ≡ true → x ≤ℤ y
le_from_test x y h = grind (arith, ints)

pub near_le : (d r : ℤ) → is_near d r ≡ true → (d *ℤ d) ≤ℤ (r +ℤ r)
near_le d r h = le_from_test (d *ℤ d) (r +ℤ r) h

pub reach_positive : (d r : ℤ) → 0 < unsigned_abs d → (d *ℤ d) ≤ℤ (r +ℤ r) → pos 0 <ℤ r
reach_positive d r some near = positive (unsigned_abs d) r some (subst (λ (z : ℤ). z ≤ℤ (r +ℤ r)) (square-is d) near)
  where
    positive : (h : ℕ) (r : ℤ) → 0 < h → pos (h * h) ≤ℤ (r +ℤ r) → pos 0 <ℤ r
    positive zero r some near = elim some [ ]
    positive (suc h) r some near = omega (arith, ints)
