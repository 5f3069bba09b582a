-- The times of held plans, added up.
use Rattle.std.proofs.Common.{ℕ, ◌+◌, ◌≤◌, ◌≡◌, List, [], ◌∷◌, ◌++◌, length, take, refl, ap, ◌∙◌, arith}
use Rattle.std.specs.List.{sum, sum_by}
use Rattle.std.proofs.lemmas.List.{length-append, length-map, take-take}
use Rattle.std.proofs.lemmas.List.Sums.{sum_by-cons, sum_by-take-le}
use Rattle.plan_types.specs.declared.plans.ExtruderPlan.{ExtruderPlan}
use Rattle.plan_types.specs.Plans.{LayerPlanValue}
use Rattle.plan_types.specs.Steps.{path_count_of, path_counts_of}
use Rattle.preheat_core.specs.Times.{times_in, times_with_lead, times_of, all_times, elapsed_of}

-- the first paths take no longer than more of them
pub elapsed_of-le : (w : List LayerPlanValue) (a b : ℕ) → a ≤ b → elapsed_of w a ≤ elapsed_of w b
elapsed_of-le w a b h =
    let xs = all_times w in
    omega (arith, sum_by-take-le (λ (t : ℕ). t) (take b xs) a, ap sum (take-take a b xs h))

length-times_in : (xs : List ExtruderPlan) → length (times_in xs) ≡ sum_by (λ x. length x.paths) xs
length-times_in [] = refl
length-times_in (x ∷ xs) = rw (length-append, length-map, length-times_in xs, sum_by-cons (λ (x : ExtruderPlan). length x.paths) x xs)

length-times_with_lead : (lead : ℕ) (ts : List ℕ) → length (times_with_lead lead ts) ≡ length ts
length-times_with_lead lead [] = refl
length-times_with_lead lead (t ∷ ts) = refl

length-times_of : (l : LayerPlanValue) → length (times_of l) ≡ path_count_of l
length-times_of l = length-times_with_lead l.lead (times_in l.plans) ∙ length-times_in l.plans

-- each path has a time
pub length-all_times : (ls : List LayerPlanValue) → length (all_times ls) ≡ path_counts_of ls
length-all_times [] = refl
length-all_times (l ∷ ls) = rw (length-append, length-times_of l, length-all_times ls, sum_by-cons path_count_of l ls)
