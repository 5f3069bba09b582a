-- No extruder is in an order twice.
use Rattle.std.proofs.Common.{◌≡◌, ◌≤◌, ◌+◌, ◌==◌, ◌&&◌, ℕ, Bool, true, false, cond, not, List, [], ◌∷◌, ◌++◌, refl, arith}
use Rattle.std.specs.List.{filter, count_by}
use Rattle.std.proofs.lemmas.Bool.Decides.{nat_tests}
use Rattle.std.proofs.lemmas.List.Sums.{sum_by-cons, sum_by-append}
use Rattle.plan_types.specs.Extruders.{has_bit}
use Rattle.plan_types.specs.Orders.{all_extruders, is_kept_on, is_changed_to, extruder_order_of}

-- 1 for e itself
abbrev one_for : ℕ → ℕ → ℕ
one_for e k = cond (k == e) 1 0

step : (e x : ℕ) (ps qs xs : List ℕ) (a b : Bool) → (a && b) ≡ false → count_by (λ k. k == e) ps + count_by (λ k. k == e) qs ≤ count_by (λ k. k == e) xs → count_by (λ k. k == e) (cond a (x ∷ ps) ps) + count_by (λ k. k == e) (cond b (x ∷ qs) qs) ≤ count_by (λ k. k == e) (x ∷ xs)
step e x ps qs xs true true h le = absurd (cc)
step e x ps qs xs true false h le = omega (arith, sum_by-cons (one_for e) x ps, sum_by-cons (one_for e) x xs, le)
step e x ps qs xs false true h le = omega (arith, sum_by-cons (one_for e) x qs, sum_by-cons (one_for e) x xs, le)
step e x ps qs xs false false h le = omega (arith, sum_by-cons (one_for e) x xs, le)

-- two parts of a list have no more of e than the list
parts : (e : ℕ) (P Q : ℕ → Bool) → ((x : ℕ) → (P x && Q x) ≡ false) → (xs : List ℕ) → count_by (λ k. k == e) (filter P xs) + count_by (λ k. k == e) (filter Q xs) ≤ count_by (λ k. k == e) xs
parts e P Q h [] = omega arith
parts e P Q h (x ∷ xs) = step e x (filter P xs) (filter Q xs) xs (P x) (Q x) (h x) (parts e P Q h xs)

apart : (b c : Bool) → ((b && c) && (b && not c)) ≡ false
apart true true = refl
apart true false = refl
apart false c = refl

all-once : (e : ℕ) → count_by (λ k. k == e) all_extruders ≤ 1
all-once e = grind (arith, nat_tests)

pub once : (last wanted e : ℕ) → count_by (λ k. k == e) (extruder_order_of last wanted) ≤ 1
once last wanted e =
    omega (arith, sum_by-append (one_for e) (filter (is_kept_on last wanted) all_extruders) (filter (is_changed_to last wanted) all_extruders), parts e (is_kept_on last wanted) (is_changed_to last wanted) (λ x. apart (has_bit wanted x) (x == last)) all_extruders, all-once e)
