-- A plan with its lead and the times of its paths: what stays as it was, and that its times are set.
use Rattle.std.proofs.Common.{ℕ, zero, suc, ◌+◌, ◌-◌, ◌*◌, ◌≤◌, ◌<◌, ◌≡◌, ◌^◌, Bool, true, false, List, [], ◌∷◌, ◌++◌, length, map, take, drop, refl, ap, sym, ◌∙◌, subst, arith}
use Rattle.std.specs.List.{sum, sum_by, flat_map}
use Rattle.std.proofs.lemmas.List.{append-nil, drop_all, take_all}
use Rattle.std.proofs.lemmas.List.Sums.{sum_by-cons, sum_by-append}
use Rattle.slice_base.specs.declared.points.Pt.{Pt}
use Rattle.plan_types.specs.declared.plans.ExtruderPlan.{ExtruderPlan}
use Rattle.plan_types.specs.Steps.{path_count_of}
use Rattle.plan_types.specs.Paths.{PathValue}
use Rattle.plan_types.specs.Plans.{LayerPlanValue as LayerPlan, IsPlan, moves_of, moves_of_plan, moves_in, volume_of, volume_of_plan, volume_in, time_of_plan, time_in}
use Rattle.plan_types.specs.Leads.{timed_paths, timed_plans, before_of, is_first_after, with_lead}
use Rattle.preheat_core.specs.Times.{times_in, times_with_lead, times_of, IsTimed}

-- a sum over paths that doesn't look at when they begin
paths_same : (f : PathValue → ℕ) → ((p : PathValue) (t : ℕ) → f (record p { before = t }) ≡ f p) → (b : Bool) (t : ℕ) (ps : List PathValue) → sum_by f (timed_paths b t ps) ≡ sum_by f ps
paths_same f keeps b t [] = refl
paths_same f keeps b t (p ∷ ps) =
    sum_by-cons f (record p { before = before_of b t }) (timed_paths false (t + p.time) ps)
    ∙ ap (λ n. n + sum_by f (timed_paths false (t + p.time) ps)) (keeps p (before_of b t))
    ∙ ap (λ n. f p + n) (paths_same f keeps false (t + p.time) ps)
    ∙ sym (sum_by-cons f p ps)

plans_same : (f : PathValue → ℕ) → ((p : PathValue) (t : ℕ) → f (record p { before = t }) ≡ f p) → (b : Bool) (t : ℕ) (xs : List ExtruderPlan) → sum_by (λ x. sum_by f x.paths) (timed_plans b t xs) ≡ sum_by (λ x. sum_by f x.paths) xs
plans_same f keeps b t [] = refl
plans_same f keeps b t (x ∷ xs) =
    let g : ExtruderPlan → ℕ = λ x. sum_by f x.paths in
    let more = timed_plans (is_first_after b x.paths) (t + sum_by (λ (p : PathValue). p.time) x.paths) xs in
    sum_by-cons g (record x { paths = timed_paths b t x.paths }) more
    ∙ ap (λ n. n + sum_by g more) (paths_same f keeps b t x.paths)
    ∙ ap (λ n. g x + n) (plans_same f keeps (is_first_after b x.paths) (t + sum_by (λ (p : PathValue). p.time) x.paths) xs)
    ∙ sym (sum_by-cons g x xs)

pub moves-timed : (b : Bool) (t : ℕ) (xs : List ExtruderPlan) → moves_in (timed_plans b t xs) ≡ moves_in xs
moves-timed b t xs = plans_same moves_of (λ p t. refl) b t xs

volume-timed : (b : Bool) (t : ℕ) (xs : List ExtruderPlan) → volume_in (timed_plans b t xs) ≡ volume_in xs
volume-timed b t xs = plans_same volume_of (λ p t. refl) b t xs

pub time-timed : (b : Bool) (t : ℕ) (xs : List ExtruderPlan) → time_in (timed_plans b t xs) ≡ time_in xs
time-timed b t xs = plans_same (λ (p : PathValue). p.time) (λ p t. refl) b t xs

length-timed : (b : Bool) (t : ℕ) (xs : List ExtruderPlan) → length (timed_plans b t xs) ≡ length xs
length-timed b t [] = refl
length-timed b t (x ∷ xs) = ap suc (length-timed (is_first_after b x.paths) (t + sum_by (λ (p : PathValue). p.time) x.paths) xs)

-- plans that were lent for writing, timed, and came back
pub came_back : (b : Bool) (t : ℕ) (now new : List ExtruderPlan) → new ≡ timed_plans b t now → take (length now) (new ++ drop (length new) now) ≡ timed_plans b t now
came_back b t now new is =
    let same : length new ≡ length now = ap (λ (xs : List ExtruderPlan). length xs) is ∙ length-timed b t now in
    ap (λ (xs : List ExtruderPlan). take (length now) (new ++ xs)) (drop_all (length new) now (omega (arith, same)))
    ∙ ap (λ (xs : List ExtruderPlan). take (length now) xs) (append-nil new)
    ∙ take_all (length now) new (omega (arith, same))
    ∙ is

pub still_plan : (b : Bool) (t : ℕ) (now back : List ExtruderPlan) → back ≡ timed_plans b t now → IsPlan now → IsPlan back
still_plan b t now back is plan = record {
  few = omega (arith, plan.few, ap moves_in is, moves-timed b t now);
  volume_small = omega (arith, plan.volume_small, ap volume_in is, volume-timed b t now);
  time_small = omega (arith, plan.time_small, ap time_in is, time-timed b t now);
}

-- times that are set stay as they are when they are set again
paths_again : (b : Bool) (t : ℕ) (ps : List PathValue) → timed_paths b t (timed_paths b t ps) ≡ timed_paths b t ps
paths_again b t [] = refl
paths_again b t (p ∷ ps) = ap (λ (qs : List PathValue). record p { before = before_of b t } ∷ qs) (paths_again false (t + p.time) ps)

first_again : (b c : Bool) (t : ℕ) (ps : List PathValue) → is_first_after b (timed_paths c t ps) ≡ is_first_after b ps
first_again b c t [] = refl
first_again b c t (p ∷ ps) = refl

plans_again : (b : Bool) (t : ℕ) (xs : List ExtruderPlan) → timed_plans b t (timed_plans b t xs) ≡ timed_plans b t xs
plans_again b t [] = refl
plans_again b t (x ∷ xs) =
    let time : PathValue → ℕ = λ p. p.time in
    let c = is_first_after b x.paths in
    let n = t + sum_by time x.paths in
    let here : timed_plans b t (record x { paths = timed_paths b t x.paths } ∷ timed_plans c n xs) ≡ record x { paths = timed_paths b t (timed_paths b t x.paths) } ∷ timed_plans (is_first_after b (timed_paths b t x.paths)) (t + sum_by time (timed_paths b t x.paths)) (timed_plans c n xs) = refl in
    here
    ∙ ap (λ (ps : List PathValue). record x { paths = ps } ∷ timed_plans (is_first_after b (timed_paths b t x.paths)) (t + sum_by time (timed_paths b t x.paths)) (timed_plans c n xs)) (paths_again b t x.paths)
    ∙ ap (λ d. record x { paths = timed_paths b t x.paths } ∷ timed_plans d (t + sum_by time (timed_paths b t x.paths)) (timed_plans c n xs)) (first_again b b t x.paths)
    ∙ ap (λ m. record x { paths = timed_paths b t x.paths } ∷ timed_plans c (t + m) (timed_plans c n xs)) (paths_same time (λ p t. refl) b t x.paths)
    ∙ ap (λ (ys : List ExtruderPlan). record x { paths = timed_paths b t x.paths } ∷ ys) (plans_again c n xs)

pub is_timed : (speed : ℕ → ℕ) (at : Pt) (l : LayerPlan) → IsTimed (with_lead speed at l)
is_timed speed at l = sym (plans_again true (with_lead speed at l).lead l.plans)

-- the times of a layer are its lead, where it has a path, and those of its paths
sum_times_in : (xs : List ExtruderPlan) → sum (times_in xs) ≡ time_in xs
sum_times_in [] = refl
sum_times_in (x ∷ xs) = omega (arith, sum_by-append (λ (t : ℕ). t) (map (λ (p : PathValue). p.time) x.paths) (times_in xs), sum_own x.paths, sum_times_in xs, sum_by-cons time_of_plan x xs)
  where
    sum_own : (ps : List PathValue) → sum (map (λ p. p.time) ps) ≡ sum_by (λ p. p.time) ps
    sum_own [] = refl
    sum_own (p ∷ ps) = omega (arith, sum_own ps, sum_by-cons (λ (t : ℕ). t) p.time (map (λ (p : PathValue). p.time) ps), sum_by-cons (λ (p : PathValue). p.time) p ps)

sum_with_lead : (lead : ℕ) (ts : List ℕ) → sum (times_with_lead lead ts) ≤ lead + sum ts
sum_with_lead lead [] = omega arith
sum_with_lead lead (t ∷ ts) = omega (arith, sum_by-cons (λ (t : ℕ). t) (lead + t) ts, sum_by-cons (λ (t : ℕ). t) t ts)

pub sum_times_of : (l : LayerPlan) → sum (times_of l) ≤ l.lead + time_in l.plans
sum_times_of l = omega (arith, sum_with_lead l.lead (times_in l.plans), sum_times_in l.plans)

-- as many paths as before
counts-timed : (b : Bool) (t : ℕ) (xs : List ExtruderPlan) → sum_by (λ x. length x.paths) (timed_plans b t xs) ≡ sum_by (λ x. length x.paths) xs
counts-timed b t [] = refl
counts-timed b t (x ∷ xs) =
    let n = λ (x : ExtruderPlan). length x.paths in
    let more = timed_plans (is_first_after b x.paths) (t + sum_by (λ (p : PathValue). p.time) x.paths) xs in
    omega (arith, sum_by-cons n x xs, sum_by-cons n (record x { paths = timed_paths b t x.paths }) more, length-paths b t x.paths, counts-timed (is_first_after b x.paths) (t + sum_by (λ (p : PathValue). p.time) x.paths) xs)
  where
    length-paths : (b : Bool) (t : ℕ) (ps : List PathValue) → length (timed_paths b t ps) ≡ length ps
    length-paths b t [] = refl
    length-paths b t (p ∷ ps) = ap suc (length-paths false (t + p.time) ps)

pub count-timed : (speed : ℕ → ℕ) (at : Pt) (l : LayerPlan) → path_count_of (with_lead speed at l) ≡ path_count_of l
count-timed speed at l = counts-timed true (with_lead speed at l).lead l.plans
