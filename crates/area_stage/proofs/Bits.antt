-- Sets of extruders as the bits of a number.
use Rattle.std.proofs.Common.{◌≡◌, ◌≢◌, ◌∙◌, ◌<◌, ◌≤◌, ◌+◌, ◌^◌, ℕ, zero, suc, max, Bool, true, false, cond, List, ◌∷◌, ◌⊎◌, inl, inr, length, get_or, drop, bit_or, nat_eq, arith, refl, sym, ap, subst}
use Rattle.std.specs.Prelude.{◌==◌}
use Rattle.std.specs.List.{filter}
use Rattle.std.specs.Int.{bit_at}
use Rattle.std.proofs.lemmas.Bool.Decides.{nat_tests}
use Rattle.std.proofs.lemmas.Nat.Bits.{bit_at-zero, bit_at-pow_other, bit_at_or}
use Rattle.slice_base.proofs.Outcomes.{drop-item}
use Rattle.settings_core.specs.Values.{MeshSettingsValue}
use Rattle.plan_types.specs.Areas.{MeshAreasValue}
use Rattle.plan_types.specs.Extruders.{has_bit}
use Rattle.area_stage.specs.Extruders.{wanted_bit, wanted_with}
use Rattle.area_stage.specs.Inner.Layers.{AreBelow}

bit-set : (bits e : ℕ) → has_bit bits e ≡ true → bit_at bits e ≡ 1
bit-set bits e h = grind (arith, nat_tests)

set-bit : (bits e : ℕ) → bit_at bits e ≡ 1 → has_bit bits e ≡ true
set-bit bits e h = ap (λ (n : ℕ). n == 1) h

pub none-below : (n : ℕ) → AreBelow n 0
none-below n e h = let t = bit-set 0 e h in let z = bit_at-zero e in absurd (omega (arith, t, z))

one_of : (a b : ℕ) → max a b ≡ 1 → (a ≡ 1) ⊎ (b ≡ 1)
one_of zero b h = inr (omega (arith, h))
one_of (suc zero) b h = inl refl
one_of (suc (suc a)) zero h = absurd (omega (arith, h))
one_of (suc (suc a)) (suc zero) h = absurd (omega (arith, h))
one_of (suc (suc a)) (suc (suc b)) h = absurd (omega (arith, h))

pub or-below : (n a b : ℕ) → AreBelow n a → AreBelow n b → AreBelow n (bit_or a b)
or-below n a b ha hb e h =
    let t : max (bit_at a e) (bit_at b e) ≡ 1 = sym (bit_at_or a b e) ∙ bit-set (bit_or a b) e h in
    elim (one_of (bit_at a e) (bit_at b e) t) as (λ _. e < n) [ inl i ↦ ha e (set-bit a e i) | inr i ↦ hb e (set-bit b e i) ]

same_or : (k e : ℕ) → (e ≡ k) ⊎ (e ≢ k)
same_or k e = by (nat_eq e k) refl
  where
    by : (t : Bool) → nat_eq e k ≡ t → (e ≡ k) ⊎ (e ≢ k)
    by true h = inl (grind (arith, nat_tests))
    by false h = inr (grind (arith, nat_tests))

pub power-below : (k : ℕ) → AreBelow (k + 1) (2 ^ k)
power-below k e h = elim (same_or k e) as (λ _. e < k + 1) [
  | inl i ↦ omega (arith, i)
  | inr i ↦ let t = bit-set (2 ^ k) e h in let z = bit_at-pow_other k e i in absurd (omega (arith, t, z))
]

pub below-more : (m n bits : ℕ) → m ≤ n → AreBelow m bits → AreBelow n bits
below-more m n bits le h e i = let t : e < m = h e i in omega (arith, t, le)

pub below-same : (n a b : ℕ) → a ≡ b → AreBelow n b → AreBelow n a
below-same n a b e h = subst (λ (k : ℕ). AreBelow n k) (sym e) h

-- ---- one more mesh

pub wanted-step : (bits new more i : ℕ) (ms : List MeshSettingsValue) (areas : List MeshAreasValue) (m : MeshSettingsValue) (a : MeshAreasValue) (whole : ℕ) → i < length ms → i < length areas → m ≡ get_or ms i m → a ≡ get_or areas i a
    → more ≡ wanted_bit m a → new ≡ bit_or bits more → wanted_with bits (drop i ms) (drop i areas) ≡ whole → wanted_with new (drop (i + 1) ms) (drop (i + 1) areas) ≡ whole
wanted-step bits new more i ms areas m a whole bm ba em ea is now so_far =
    let dm = drop-item ms i m bm em in
    let da = drop-item areas i a ba ea in
    ap (λ (k : ℕ). wanted_with k (drop (i + 1) ms) (drop (i + 1) areas)) (now ∙ ap (λ (k : ℕ). bit_or bits k) is)
    ∙ (sym (ap (λ (l : List MeshSettingsValue). wanted_with bits l (drop i areas)) dm ∙ ap (λ (l : List MeshAreasValue). wanted_with bits (m ∷ drop (i + 1) ms) l) da) ∙ so_far)

-- ---- the least one

filter-drop : (p : ℕ → Bool) (xs : List ℕ) (i e : ℕ) → i < length xs → e ≡ get_or xs i e → filter p (drop i xs) ≡ cond (p e) (e ∷ filter p (drop (i + 1) xs)) (filter p (drop (i + 1) xs))
filter-drop p xs i e below at = ap (λ (l : List ℕ). filter p l) (drop-item xs i e below at)

first-by : (t : Bool) (e : ℕ) (xs : List ℕ) → t ≡ true → get_or (cond t (e ∷ xs) xs) 0 0 ≡ e
first-by true e xs h = refl
first-by false e xs h = absurd (cc)

later-by : (t : Bool) (e : ℕ) (xs : List ℕ) → t ≡ false → cond t (e ∷ xs) xs ≡ xs
later-by true e xs h = absurd (cc)
later-by false e xs h = refl

pub least-found : (p : ℕ → Bool) (xs : List ℕ) (i e whole : ℕ) → i < length xs → e ≡ get_or xs i e → p e ≡ true → get_or (filter p (drop i xs)) 0 0 ≡ whole → e ≡ whole
least-found p xs i e whole below at passes so_far =
    sym (first-by (p e) e (filter p (drop (i + 1) xs)) passes) ∙ (sym (ap (λ (l : List ℕ). get_or l 0 0) (filter-drop p xs i e below at)) ∙ so_far)

pub least-later : (p : ℕ → Bool) (xs : List ℕ) (i e whole : ℕ) → i < length xs → e ≡ get_or xs i e → p e ≡ false → get_or (filter p (drop i xs)) 0 0 ≡ whole → get_or (filter p (drop (i + 1) xs)) 0 0 ≡ whole
least-later p xs i e whole below at fails so_far =
    sym (ap (λ (l : List ℕ). get_or l 0 0) (filter-drop p xs i e below at ∙ later-by (p e) e (filter p (drop (i + 1) xs)) fails)) ∙ so_far
