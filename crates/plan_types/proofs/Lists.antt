-- Lists that a filter leaves.
use Rattle.std.proofs.Common.{◌≡◌, ◌∙◌, ◌<◌, ◌≤◌, ◌+◌, ℕ, suc, Bool, true, false, cond, List, [], ◌∷◌, ◌++◌, length, length-append, append_assoc, drop, get_or, not, ◌&&◌, arith, refl, sym, ap}
use Rattle.std.specs.Prelude.{◌==◌}
use Rattle.std.specs.List.{filter}
use Rattle.slice_base.proofs.Outcomes.{drop-item}
use Rattle.plan_types.specs.Extruders.{has_bit}
use Rattle.plan_types.specs.Orders.{all_extruders, is_kept_on, is_changed_to, extruder_order_of}

filter_by-le : (t : Bool) (x : ℕ) (xs : List ℕ) (n : ℕ) → length xs ≤ n → length (cond t (x ∷ xs) xs) ≤ suc n
filter_by-le true x xs n h = omega (arith, h)
filter_by-le false x xs n h = omega (arith, h)

pub filter-le : (p : ℕ → Bool) (xs : List ℕ) → length (filter p xs) ≤ length xs
filter-le p [] = omega arith
filter-le p (x ∷ xs) = filter_by-le (p x) x (filter p xs) (length xs) (filter-le p xs)

two_by-le : (t u : Bool) (x : ℕ) (xs ys : List ℕ) (n : ℕ) → (t && u) ≡ false → length xs + length ys ≤ n → length (cond t (x ∷ xs) xs) + length (cond u (x ∷ ys) ys) ≤ suc n
two_by-le true true x xs ys n e h = absurd (cc)
two_by-le true false x xs ys n e h = omega (arith, h)
two_by-le false true x xs ys n e h = omega (arith, h)
two_by-le false false x xs ys n e h = omega (arith, h)

-- of two tests that no item passes both
pub two_filters-le : (p q : ℕ → Bool) → ((x : ℕ) → (p x && q x) ≡ false) → (xs : List ℕ) → length (filter p xs) + length (filter q xs) ≤ length xs
two_filters-le p q apart [] = omega arith
two_filters-le p q apart (x ∷ xs) = two_by-le (p x) (q x) x (filter p xs) (filter q xs) (length xs) (apart x) (two_filters-le p q apart xs)

not_both : (a b : Bool) → ((a && b) && (a && not b)) ≡ false
not_both true true = refl
not_both true false = refl
not_both false true = refl
not_both false false = refl

pub order-le : (last wanted : ℕ) → length (extruder_order_of last wanted) ≤ 8
order-le last wanted =
    let t = two_filters-le (is_kept_on last wanted) (is_changed_to last wanted) (λ e. not_both (has_bit wanted e) (e == last)) all_extruders in
    let s = length-append (filter (is_kept_on last wanted) all_extruders) (filter (is_changed_to last wanted) all_extruders) in
    omega (arith, s, t)

join : (t : Bool) (x : ℕ) (xs : List ℕ) → cond t (x ∷ xs) xs ≡ cond t (x ∷ []) [] ++ xs
join true x xs = refl
join false x xs = refl

filter-drop : (p : ℕ → Bool) (xs : List ℕ) (i e : ℕ) → i < length xs → e ≡ get_or xs i e → filter p (drop i xs) ≡ cond (p e) (e ∷ []) [] ++ filter p (drop (i + 1) xs)
filter-drop p xs i e below at = ap (λ (l : List ℕ). filter p l) (drop-item xs i e below at) ∙ join (p e) e (filter p (drop (i + 1) xs))

-- one item of the rest is tried
pub filter-step : (p : ℕ → Bool) (done new xs whole : List ℕ) (i e : ℕ) (t : Bool) → i < length xs → e ≡ get_or xs i e → t ≡ p e → new ≡ done ++ cond t (e ∷ []) [] → done ++ filter p (drop i xs) ≡ whole → new ++ filter p (drop (i + 1) xs) ≡ whole
filter-step p done new xs whole i e t below at is pushed so_far =
    let rest = filter p (drop (i + 1) xs) in
    ap (λ (l : List ℕ). l ++ rest) (pushed ∙ ap (λ (b : Bool). done ++ cond b (e ∷ []) []) is)
    ∙ (append_assoc done (cond (p e) (e ∷ []) []) rest
    ∙ (ap (λ (l : List ℕ). done ++ l) (sym (filter-drop p xs i e below at)) ∙ so_far))

length_by : (t : Bool) (x : ℕ) → t ≡ true → length (cond t (x ∷ []) []) ≡ 1
length_by true x h = refl
length_by false x h = absurd (cc)

-- where one more item passes there is room for it
pub room : (p : ℕ → Bool) (done xs whole : List ℕ) (i e : ℕ) → i < length xs → e ≡ get_or xs i e → p e ≡ true → done ++ filter p (drop i xs) ≡ whole → length whole ≤ 8 → length done < 8
room p done xs whole i e below at passes so_far le =
    let rest = filter p (drop (i + 1) xs) in
    let n = ap (λ (l : List ℕ). length l) (filter-drop p xs i e below at) in
    let m = length-append (cond (p e) (e ∷ []) []) rest in
    let o = length_by (p e) e passes in
    let s = length-append done (filter p (drop i xs)) in
    let w = ap (λ (l : List ℕ). length l) so_far in
    omega (arith, n, m, o, s, w, le)
