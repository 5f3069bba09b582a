-- Two steps of one direction have the same signs.
use Rattle.std.proofs.Common.{◌≡◌, ◌*◌, ◌≤◌, ◌⊎◌, inl, inr, zero, suc, ℤ, pos, negsuc, ◌≤ℤ◌, ◌<ℤ◌, ◌+ℤ◌, ◌*ℤ◌, arith, refl, ap, ◌∙◌}
use Rattle.std.proofs.Math.IntN.{*ℤ_comm, *ℤ-zero, zero-*ℤ}
use Rattle.std.proofs.lemmas.Int.{ints}
use Rattle.std.proofs.lemmas.Nat.{mul-le}

pub pp : (a b : ℤ) → pos 0 <ℤ a → pos 0 <ℤ b → pos 0 <ℤ (a *ℤ b)
pp (pos m) (pos n) p q = let h : 1 * 1 ≤ m * n = mul-le 1 1 m n (omega (arith, ints, p)) (omega (arith, ints, q)) in omega (arith, ints, h)
pp (pos m) (negsuc n) p q = absurd (omega (arith, ints, q))
pp (negsuc m) b p q = absurd (omega (arith, ints, p))

pub pn : (a b : ℤ) → pos 0 <ℤ a → b <ℤ pos 0 → (a *ℤ b) <ℤ pos 0
pn (pos m) (negsuc n) p q = let h : 1 * 1 ≤ m * suc n = mul-le 1 1 m (suc n) (omega (arith, ints, p)) (omega arith) in omega (arith, ints, h)
pn (pos m) (pos n) p q = absurd (omega (arith, ints, q))
pn (negsuc m) b p q = absurd (omega (arith, ints, p))

pub nn : (a b : ℤ) → a <ℤ pos 0 → b <ℤ pos 0 → pos 0 <ℤ (a *ℤ b)
nn (negsuc m) (negsuc n) p q = let h : 1 * 1 ≤ suc m * suc n = mul-le 1 1 (suc m) (suc n) (omega arith) (omega arith) in omega (arith, ints, h)
nn (negsuc m) (pos n) p q = absurd (omega (arith, ints, q))
nn (pos m) b p q = absurd (omega (arith, ints, p))

pub np : (a b : ℤ) → a <ℤ pos 0 → pos 0 <ℤ b → (a *ℤ b) <ℤ pos 0
np a b p q = rw (*ℤ_comm a b) (pn b a q p)

pub z* : (a b : ℤ) → a ≡ pos 0 → a *ℤ b ≡ pos 0
z* a b e = ap (λ (t : ℤ). t *ℤ b) e ∙ zero-*ℤ b

pub *z : (a b : ℤ) → b ≡ pos 0 → a *ℤ b ≡ pos 0
*z a b e = ap (λ (t : ℤ). a *ℤ t) e ∙ *ℤ-zero a

abbrev pub Sign : ℤ → Type 0
Sign a = (a <ℤ pos 0) ⊎ ((a ≡ pos 0) ⊎ (pos 0 <ℤ a))

pub sign : (a : ℤ) → Sign a
sign (pos zero) = inr (inl refl)
sign (pos (suc n)) = inr (inr (omega (arith, ints)))
sign (negsuc n) = inl (omega (arith, ints))

-- contradictions over plain values
low_sum : (r s : ℤ) → pos 0 <ℤ (r +ℤ s) → r ≤ℤ pos 0 → s ≤ℤ pos 0 → ⊥
low_sum r s h p q = omega (arith, ints, h, p, q)

down_up : (p q : ℤ) → p ≡ q → p <ℤ pos 0 → pos 0 ≤ℤ q → ⊥
down_up p q e h k = omega (arith, ints, e, h, k)

up_down : (p q : ℤ) → p ≡ q → pos 0 <ℤ p → q ≤ℤ pos 0 → ⊥
up_down p q e h k = omega (arith, ints, e, h, k)

lt-le : (p : ℤ) → p <ℤ pos 0 → p ≤ℤ pos 0
lt-le p h = omega (arith, ints, h)

gt-ge : (p : ℤ) → pos 0 <ℤ p → pos 0 ≤ℤ p
gt-ge p h = omega (arith, ints, h)

eq-le : (p : ℤ) → p ≡ pos 0 → p ≤ℤ pos 0
eq-le p h = omega (arith, ints, h)

eq-ge : (p : ℤ) → p ≡ pos 0 → pos 0 ≤ℤ p
eq-ge p h = omega (arith, ints, h)

-- where the first goes up, so does the second
up_by : (ux uy vx vy : ℤ) → ux *ℤ vy ≡ uy *ℤ vx → pos 0 <ℤ (ux *ℤ vx +ℤ uy *ℤ vy) → pos 0 <ℤ ux → Sign vx → Sign vy → Sign uy → pos 0 <ℤ vx
up_by ux uy vx vy c d u (inr (inr h)) sy su = h
up_by ux uy vx vy c d u (inr (inl z)) (inl y) su = absurd (down_up (ux *ℤ vy) (uy *ℤ vx) c (pn ux vy u y) (eq-ge (uy *ℤ vx) (*z uy vx z)))
up_by ux uy vx vy c d u (inr (inl z)) (inr (inl y)) su = absurd (low_sum (ux *ℤ vx) (uy *ℤ vy) d (eq-le (ux *ℤ vx) (*z ux vx z)) (eq-le (uy *ℤ vy) (*z uy vy y)))
up_by ux uy vx vy c d u (inr (inl z)) (inr (inr y)) su = absurd (up_down (ux *ℤ vy) (uy *ℤ vx) c (pp ux vy u y) (eq-le (uy *ℤ vx) (*z uy vx z)))
up_by ux uy vx vy c d u (inl x) (inr (inl y)) su = absurd (low_sum (ux *ℤ vx) (uy *ℤ vy) d (lt-le (ux *ℤ vx) (pn ux vx u x)) (eq-le (uy *ℤ vy) (*z uy vy y)))
up_by ux uy vx vy c d u (inl x) (inr (inr y)) (inl w) = absurd (low_sum (ux *ℤ vx) (uy *ℤ vy) d (lt-le (ux *ℤ vx) (pn ux vx u x)) (lt-le (uy *ℤ vy) (np uy vy w y)))
up_by ux uy vx vy c d u (inl x) (inr (inr y)) (inr (inl w)) = absurd (up_down (ux *ℤ vy) (uy *ℤ vx) c (pp ux vy u y) (eq-le (uy *ℤ vx) (z* uy vx w)))
up_by ux uy vx vy c d u (inl x) (inr (inr y)) (inr (inr w)) = absurd (up_down (ux *ℤ vy) (uy *ℤ vx) c (pp ux vy u y) (lt-le (uy *ℤ vx) (pn uy vx w x)))
up_by ux uy vx vy c d u (inl x) (inl y) (inl w) = absurd (down_up (ux *ℤ vy) (uy *ℤ vx) c (pn ux vy u y) (gt-ge (uy *ℤ vx) (nn uy vx w x)))
up_by ux uy vx vy c d u (inl x) (inl y) (inr (inl w)) = absurd (down_up (ux *ℤ vy) (uy *ℤ vx) c (pn ux vy u y) (eq-ge (uy *ℤ vx) (z* uy vx w)))
up_by ux uy vx vy c d u (inl x) (inl y) (inr (inr w)) = absurd (low_sum (ux *ℤ vx) (uy *ℤ vy) d (lt-le (ux *ℤ vx) (pn ux vx u x)) (lt-le (uy *ℤ vy) (pn uy vy w y)))

pub up : (ux uy vx vy : ℤ) → ux *ℤ vy ≡ uy *ℤ vx → pos 0 <ℤ (ux *ℤ vx +ℤ uy *ℤ vy) → pos 0 <ℤ ux → pos 0 <ℤ vx
up ux uy vx vy c d u = up_by ux uy vx vy c d u (sign vx) (sign vy) (sign uy)

-- where the first goes down, so does the second
down_by : (ux uy vx vy : ℤ) → ux *ℤ vy ≡ uy *ℤ vx → pos 0 <ℤ (ux *ℤ vx +ℤ uy *ℤ vy) → ux <ℤ pos 0 → Sign vx → Sign vy → Sign uy → vx <ℤ pos 0
down_by ux uy vx vy c d u (inl h) sy su = h
down_by ux uy vx vy c d u (inr (inl z)) (inl y) su = absurd (up_down (ux *ℤ vy) (uy *ℤ vx) c (nn ux vy u y) (eq-le (uy *ℤ vx) (*z uy vx z)))
down_by ux uy vx vy c d u (inr (inl z)) (inr (inl y)) su = absurd (low_sum (ux *ℤ vx) (uy *ℤ vy) d (eq-le (ux *ℤ vx) (*z ux vx z)) (eq-le (uy *ℤ vy) (*z uy vy y)))
down_by ux uy vx vy c d u (inr (inl z)) (inr (inr y)) su = absurd (down_up (ux *ℤ vy) (uy *ℤ vx) c (np ux vy u y) (eq-ge (uy *ℤ vx) (*z uy vx z)))
down_by ux uy vx vy c d u (inr (inr x)) (inr (inl y)) su = absurd (low_sum (ux *ℤ vx) (uy *ℤ vy) d (lt-le (ux *ℤ vx) (np ux vx u x)) (eq-le (uy *ℤ vy) (*z uy vy y)))
down_by ux uy vx vy c d u (inr (inr x)) (inr (inr y)) (inl w) = absurd (low_sum (ux *ℤ vx) (uy *ℤ vy) d (lt-le (ux *ℤ vx) (np ux vx u x)) (lt-le (uy *ℤ vy) (np uy vy w y)))
down_by ux uy vx vy c d u (inr (inr x)) (inr (inr y)) (inr (inl w)) = absurd (down_up (ux *ℤ vy) (uy *ℤ vx) c (np ux vy u y) (eq-ge (uy *ℤ vx) (z* uy vx w)))
down_by ux uy vx vy c d u (inr (inr x)) (inr (inr y)) (inr (inr w)) = absurd (down_up (ux *ℤ vy) (uy *ℤ vx) c (np ux vy u y) (gt-ge (uy *ℤ vx) (pp uy vx w x)))
down_by ux uy vx vy c d u (inr (inr x)) (inl y) (inl w) = absurd (up_down (ux *ℤ vy) (uy *ℤ vx) c (nn ux vy u y) (lt-le (uy *ℤ vx) (np uy vx w x)))
down_by ux uy vx vy c d u (inr (inr x)) (inl y) (inr (inl w)) = absurd (up_down (ux *ℤ vy) (uy *ℤ vx) c (nn ux vy u y) (eq-le (uy *ℤ vx) (z* uy vx w)))
down_by ux uy vx vy c d u (inr (inr x)) (inl y) (inr (inr w)) = absurd (low_sum (ux *ℤ vx) (uy *ℤ vy) d (lt-le (ux *ℤ vx) (np ux vx u x)) (lt-le (uy *ℤ vy) (pn uy vy w y)))

pub down : (ux uy vx vy : ℤ) → ux *ℤ vy ≡ uy *ℤ vx → pos 0 <ℤ (ux *ℤ vx +ℤ uy *ℤ vy) → ux <ℤ pos 0 → vx <ℤ pos 0
down ux uy vx vy c d u = down_by ux uy vx vy c d u (sign vx) (sign vy) (sign uy)

-- a step of no length has no direction
pub still : (ux uy vx vy : ℤ) → pos 0 <ℤ (ux *ℤ vx +ℤ uy *ℤ vy) → ux ≡ pos 0 → uy ≡ pos 0 → ⊥
still ux uy vx vy d x y = low_sum (ux *ℤ vx) (uy *ℤ vy) d (eq-le (ux *ℤ vx) (z* ux vx x)) (eq-le (uy *ℤ vy) (z* uy vy y))
