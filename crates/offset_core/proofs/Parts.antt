-- The parts of a normal are no longer than the distance.
use Rattle.std.proofs.Common.{◌∙◌, ◌*ℤ◌, FitsSigned, w32, to_z, of_z, ◌≡◌, ◌<◌, ◌≤◌, ◌+◌, ◌*◌, ℕ, zero, suc, ℤ, pos, negsuc, neg_ℤ, ◌⊎◌, inl, inr, unsigned_abs, arith, refl, sym, ap, subst}
use Rattle.std.proofs.Math.Nat.{mul-le-mul, mul-le-mul_right, div-lt_iff_lt-mul, div-zero}
use Rattle.std.specs.Int.{w128}
use Rattle.std.proofs.lemmas.Int.{ints, unsigned_abs-mul}
use Rattle.slice_base.specs.declared.points.Pt.{Pt}
use Rattle.slice_base.specs.Whole.{round_nat, rounded, IsRoot}
use Rattle.slice_base.specs.Plane.{gap_of, square_of}
use Rattle.offset_core.specs.Normals.{part_of}

abs-neg : (n : ℕ) → unsigned_abs (neg_ℤ (pos n)) ≡ n
abs-neg zero = refl
abs-neg (suc n) = refl

-- a quotient by 0 is 0
pub rounded-by_zero : (z : ℤ) → rounded z 0 ≡ pos 0
rounded-by_zero (pos n) = ap pos (div-zero (2 * n + 0))
rounded-by_zero (negsuc n) = ap (λ (k : ℕ). neg_ℤ (pos k)) (div-zero (2 * (n + 1) + 0))

-- a quotient of at most m, rounded, is at most m
pub round_nat-le : (n w m : ℕ) → 0 < w → n ≤ w * m → round_nat n w ≤ m
round_nat-le n w m some h =
    let some' : 0 < 2 * w = omega arith in
    let le : 2 * n + w < suc m * (2 * w) = omega arith in
    let lt = (div-lt_iff_lt-mul some').1 le in
    omega (arith, lt)

pub rounded-le : (z : ℤ) (w m : ℕ) → 0 < w → unsigned_abs z ≤ w * m → unsigned_abs (rounded z w) ≤ m
rounded-le (pos n) w m some h = round_nat-le n w m some h
rounded-le (negsuc n) w m some h =
    let le : round_nat (n + 1) w ≤ m = round_nat-le (n + 1) w m some (omega arith) in
    subst (λ (k : ℕ). k ≤ m) (sym (abs-neg (round_nat (n + 1) w))) le

or_else : (r s : ℕ) → (s ≤ r) ⊎ (suc r ≤ s)
or_else r zero = inl (omega arith)
or_else zero (suc s) = inr (omega arith)
or_else (suc r) (suc s) = elim (or_else r s) as (λ _. (suc s ≤ suc r) ⊎ (suc (suc r) ≤ suc s)) [ inl h ↦ inl (omega arith) | inr h ↦ inr (omega arith) ]

-- a root is no less than what has a square no greater
pub root-at_least : (n r s : ℕ) → IsRoot n r → s * s ≤ n → s ≤ r
root-at_least n r s root h = elim (or_else r s) as (λ _. s ≤ r) [
  | inl le ↦ le
  | inr gt ↦
      let one : suc r * suc r ≤ s * s = mul-le-mul gt gt in
      let below : n ≤ r * r + r = root.below in
      omega arith
]

-- the way is as long as its steps
pub long-x : (p q : Pt) (whole : ℕ) → IsRoot (1000000 * square_of p q) whole → 1000 * gap_of p.x q.x ≤ whole
long-x p q whole root = root-at_least (1000000 * square_of p q) whole (1000 * gap_of p.x q.x) root (omega arith)

pub long-y : (p q : Pt) (whole : ℕ) → IsRoot (1000000 * square_of p q) whole → 1000 * gap_of p.y q.y ≤ whole
long-y p q whole root = root-at_least (1000000 * square_of p q) whole (1000 * gap_of p.y q.y) root (omega arith)

-- ---- a part of a normal

-- 1000 times the step, times the distance
thousand_le : (step d : ℤ) (whole : ℕ) → 1000 * unsigned_abs step ≤ whole → 1000 * unsigned_abs (step *ℤ d) ≤ whole * unsigned_abs d
thousand_le step d whole long =
    let t : (1000 * unsigned_abs step) * unsigned_abs d ≤ whole * unsigned_abs d = mul-le-mul_right (unsigned_abs d) long in
    let e : unsigned_abs (step *ℤ d) ≡ unsigned_abs step * unsigned_abs d = unsigned_abs-mul step d in
    omega arith

pub part_of-le : (step d : ℤ) (whole : ℕ) → 1000 * unsigned_abs step ≤ whole → 0 < whole → unsigned_abs (part_of d step whole) ≤ unsigned_abs d
part_of-le step d whole long some =
    let t : 1000 * unsigned_abs (step *ℤ d) ≤ whole * unsigned_abs d = thousand_le step d whole long in
    let e : unsigned_abs ((step *ℤ d) *ℤ pos 1000) ≡ unsigned_abs (step *ℤ d) * 1000 = unsigned_abs-mul (step *ℤ d) (pos 1000) in
    rounded-le ((step *ℤ d) *ℤ pos 1000) whole (unsigned_abs d) some (omega arith)

-- as the code has them: a quotient of numbers that are equal to the definition's
pub part_is : (step d p n r : ℤ) (whole : ℕ) → p ≡ step *ℤ d → n ≡ p *ℤ pos 1000 → r ≡ rounded n whole → r ≡ part_of d step whole
part_is step d p n r whole ep en er = er ∙ ap (λ (z : ℤ). rounded z whole) (en ∙ ap (λ (z : ℤ). z *ℤ pos 1000) ep)

pub narrowed : (r : ℤ) → FitsSigned w128 r → FitsSigned w32 r → to_z w32 (of_z w32 (to_z w128 (of_z w128 r))) ≡ r
narrowed r f g = omega (arith, ints)
