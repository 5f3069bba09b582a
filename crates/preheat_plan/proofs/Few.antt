-- At most sixteen preheats stand at one layer's boundaries.
use Rattle.std.proofs.Common.{ℕ, zero, suc, ◌+◌, ◌≤◌, ◌<◌, ◌≡◌, ◌==◌, cond, List, [], ◌∷◌, ◌++◌, length, refl, sym, arith, ⊎_elim}
use Rattle.std.specs.List.{All, count_by}
use Rattle.std.proofs.lemmas.List.Sums.{sum_by-cons}
use Rattle.std.proofs.lemmas.List.Elements.{All-head, All-tail}
use Rattle.std.proofs.lemmas.Bool.{cond-true, cond-false, eq-eqb, ne_eqb, cases_eq, cases_lt}
use Rattle.plan_types.specs.declared.inserts.Insert.{Insert}
use Rattle.plan_types.specs.declared.plans.ExtruderPlan.{ExtruderPlan}
use Rattle.plan_types.specs.Plans.{EachOnce, LayerPlanValue as LayerPlan}
use Rattle.plan_types.specs.Steps.{path_count_of, path_counts_of}
use Rattle.preheat_plan.specs.Past.{Rules}
use Rattle.preheat_plan.specs.Completed.{inserts_at}
use Rattle.preheat_plan.specs.Preheats.{preheats_of}
use Rattle.preheat_plan.proofs.Twice.{law_count}

abbrev pub sum_to : ℕ → (ℕ → ℕ) → ℕ
sum_to zero f = 0
sum_to (suc m) f = f m + sum_to m f

sum_to-add : (m : ℕ) (f g : ℕ → ℕ) → sum_to m (λ e. f e + g e) ≡ sum_to m f + sum_to m g
sum_to-add zero f g = refl
sum_to-add (suc m) f g = omega (arith, sum_to-add m f g)

sum_to-same : (m : ℕ) (f g : ℕ → ℕ) → ((e : ℕ) → f e ≡ g e) → sum_to m f ≡ sum_to m g
sum_to-same zero f g h = refl
sum_to-same (suc m) f g h = omega (arith, h m, sum_to-same m f g h)

is_at : ℕ → ℕ → ℕ
is_at x e = cond (x == e) 1 0

is_at_none : (m x : ℕ) → m ≤ x → sum_to m (is_at x) ≡ 0
unfolding is_at
is_at_none zero x h = refl
is_at_none (suc m) x h =
    let z : is_at x m ≡ 0 = cond-false {A = ℕ} (x == m) 1 0 (ne_eqb x m (λ e. absurd (omega (arith, h, e)))) in
    omega (arith, z, is_at_none m x (omega (arith, h)))

is_at_one : (m x : ℕ) → x < m → sum_to m (is_at x) ≡ 1
unfolding is_at
is_at_one zero x h = absurd (omega (arith, h))
is_at_one (suc m) x h =
    ⊎_elim
    (λ (same : x ≡ m). let z : is_at x m ≡ 1 = cond-true {A = ℕ} (x == m) 1 0 (eq-eqb x m same) in omega (arith, z, is_at_none m x (omega (arith, same))))
    (λ (other : x ≡ m → ⊥). let z : is_at x m ≡ 0 = cond-false {A = ℕ} (x == m) 1 0 (ne_eqb x m other) in omega (arith, z, is_at_one m x (below m x h other)))
    (cases_eq x m)
  where
    below : (m x : ℕ) → x < suc m → (x ≡ m → ⊥) → x < m
    below m x h n = ⊎_elim (λ (a : x < m). a) (λ (b : m ≤ x). absurd (n (omega (arith, h, b)))) (cases_lt x m)

-- things by their extruder: as many as of each extruder together
by_extruder : {A : Type 0} (of : A → ℕ) (m : ℕ) (is : List A) → All (λ i. of i < m) is → length is ≡ sum_to m (λ e. count_by (λ i. of i == e) is)
unfolding is_at
by_extruder of m [] h = sym (sum_to-zero m)
  where
    sum_to-zero : (m : ℕ) → sum_to m (λ e. 0) ≡ 0
    sum_to-zero zero = refl
    sum_to-zero (suc m) = omega (arith, sum_to-zero m)
by_extruder {A = A} of m (i ∷ is) h =
    let one : sum_to m (is_at (of i)) ≡ 1 = is_at_one m (of i) (All-head (λ (i : A). of i < m) i is h) in
    let step : (e : ℕ) → count_by (λ j. of j == e) (i ∷ is) ≡ is_at (of i) e + count_by (λ j. of j == e) is = λ e. sum_by-cons (λ (j : A). cond (of j == e) 1 0) i is in
    omega (arith, one, by_extruder of m is (All-tail (λ (i : A). of i < m) i is h), sum_to-same m (λ e. count_by (λ (j : A). of j == e) (i ∷ is)) (λ e. is_at (of i) e + count_by (λ (j : A). of j == e) is) step, sum_to-add m (is_at (of i)) (λ e. count_by (λ (j : A). of j == e) is))

pub length-by_extruder : (m : ℕ) (is : List Insert) → All (λ i. i.extruder < m) is → length is ≡ sum_to m (λ e. count_by (λ i. i.extruder == e) is)
length-by_extruder m is h = by_extruder (λ (i : Insert). i.extruder) m is h

sum_to-one : (m k : ℕ) (f : ℕ → ℕ) → ((e : ℕ) → f e ≤ 1) → k ≡ 1 → sum_to m f ≤ m
sum_to-one zero k f h e = omega arith
sum_to-one (suc m) k f h e = omega (arith, h m, sum_to-one m k f h e)

-- where a layer has one plan of each of eight extruders at most, it has eight plans at most
pub eight : (plans : List ExtruderPlan) → All (λ x. x.extruder < 8) plans → EachOnce plans → length plans ≤ 8
eight plans known once =
    omega (arith, by_extruder (λ (x : ExtruderPlan). x.extruder) 8 plans known, sum_to-one 8 1 (λ e. count_by (λ (x : ExtruderPlan). x.extruder == e) plans) once refl)

sum_to-le : (m k : ℕ) (f : ℕ → ℕ) → ((e : ℕ) → f e ≤ 2) → k ≡ 2 → sum_to m f ≤ m + m
sum_to-le zero k f h e = omega arith
sum_to-le (suc m) k f h e = omega (arith, h m, sum_to-le m k f h e)

-- where a layer has one plan of each of eight extruders at most
pub law_few : (r : Rules) (near later : List LayerPlan) (l : LayerPlan) → ((e : ℕ) → count_by (λ x. x.extruder == e) l.plans ≤ 1) → All (λ i. i.extruder < 8) (inserts_at r.degrees (path_counts_of near) (path_count_of l) (preheats_of r (near ++ l ∷ later))) → length (inserts_at r.degrees (path_counts_of near) (path_count_of l) (preheats_of r (near ++ l ∷ later))) ≤ 16
law_few r near later l once known =
    let is = inserts_at r.degrees (path_counts_of near) (path_count_of l) (preheats_of r (near ++ l ∷ later)) in
    let two : (e : ℕ) → count_by (λ i. i.extruder == e) is ≤ 2 = λ e. omega (arith, law_count r e near later l, once e) in
    omega (arith, length-by_extruder 8 is known, sum_to-le 8 2 (λ e. count_by (λ (i : Insert). i.extruder == e) is) two refl)
