-- What neither times nor speeds of paths change: sums over paths of what speaks of neither.
use Rattle.std.proofs.Common.{◌≡◌, ◌+◌, ◌*◌, ◌<◌, ◌≤◌, ◌^◌, ℕ, suc, Bool, true, false, cond, List, [], ◌∷◌, ◌++◌, length, take, drop, Option, None, refl, sym, ap, ◌∙◌, subst, arith}
use Rattle.std.proofs.lemmas.List.{append-nil, drop_all, take_all}
use Rattle.std.specs.List.{sum_by}
use Rattle.std.proofs.lemmas.List.Sums.{sum_by-cons}
use Rattle.slice_base.specs.declared.points.Pt.{Pt}
use Rattle.settings_core.specs.Values.{SettingsValue as Settings, ExtruderSettingsValue as ExtruderSettings}
use Rattle.plan_types.specs.Paths.{PathValue as Path}
use Rattle.plan_types.specs.declared.plans.ExtruderPlan.{ExtruderPlan}
use Rattle.plan_types.specs.Plans.{moves_of, moves_in, volume_of, volume_in, time_in, IsPlan}
use Rattle.plan_types.specs.Extruders.{extruder_of}
use Rattle.time_cool.specs.declared.cooling.Spent.{Spent}
use Rattle.time_cool.specs.Times.{path_time_of, end_of}
use Rattle.time_cool.specs.Cooling.{end_of_paths, timed_path, timed_paths, timed_plan, timed_plans, slower, slower_path, slower_paths, slower_plan, slower_plans, slowed_plans, is_short, spent_on, cooled}

-- the function speaks neither of the time nor of the speed of a path
abbrev pub IsLasting : (Path → ℕ) → Type 0
IsLasting f = ((p : Path) (t : ℕ) → f (record p { time = t }) ≡ f p) × ((p : Path) (v : ℕ) → f (record p { speed = v }) ≡ f p)

-- the sum over the paths of an extruder
abbrev pub in_plan : (Path → ℕ) → ExtruderPlan → ℕ
in_plan f x = sum_by f x.paths

timed-paths : (f : Path → ℕ) → IsLasting f → (e : ExtruderSettings) (from : Option Pt) (ps : List Path) → sum_by f (timed_paths e from ps) ≡ sum_by f ps
timed-paths f h e from [] = refl
timed-paths f h e from (p ∷ ps) =
    sum_by-cons f (timed_path e from p) (timed_paths e (end_of from p.points) ps)
    ∙ ap (λ n. n + sum_by f (timed_paths e (end_of from p.points) ps)) (h.0 p (path_time_of e from p))
    ∙ ap (λ n. f p + n) (timed-paths f h e (end_of from p.points) ps)
    ∙ sym (sum_by-cons f p ps)

timed-plans : (f : Path → ℕ) → IsLasting f → (s : Settings) (from : Option Pt) (xs : List ExtruderPlan) → sum_by (in_plan f) (timed_plans s from xs) ≡ sum_by (in_plan f) xs
timed-plans f h s from [] = refl
timed-plans f h s from (x ∷ xs) =
    sum_by-cons (in_plan f) (timed_plan s from x) (timed_plans s (end_of_paths from x.paths) xs)
    ∙ ap (λ n. n + sum_by (in_plan f) (timed_plans s (end_of_paths from x.paths) xs)) (timed-paths f h (extruder_of s.extruders x.extruder) from x.paths)
    ∙ ap (λ n. in_plan f x + n) (timed-plans f h s (end_of_paths from x.paths) xs)
    ∙ sym (sum_by-cons (in_plan f) x xs)

slower-paths : (f : Path → ℕ) → IsLasting f → (s : Settings) (spent : Spent) (ps : List Path) → sum_by f (slower_paths s spent ps) ≡ sum_by f ps
slower-paths f h s spent [] = refl
slower-paths f h s spent (p ∷ ps) =
    sum_by-cons f (slower_path s spent p) (slower_paths s spent ps)
    ∙ ap (λ n. n + sum_by f (slower_paths s spent ps)) (h.1 p (slower s spent p.speed))
    ∙ ap (λ n. f p + n) (slower-paths f h s spent ps)
    ∙ sym (sum_by-cons f p ps)

slower-plans : (f : Path → ℕ) → IsLasting f → (s : Settings) (spent : Spent) (xs : List ExtruderPlan) → sum_by (in_plan f) (slower_plans s spent xs) ≡ sum_by (in_plan f) xs
slower-plans f h s spent [] = refl
slower-plans f h s spent (x ∷ xs) =
    sum_by-cons (in_plan f) (slower_plan s spent x) (slower_plans s spent xs)
    ∙ ap (λ n. n + sum_by (in_plan f) (slower_plans s spent xs)) (slower-paths f h s spent x.paths)
    ∙ ap (λ n. in_plan f x + n) (slower-plans f h s spent xs)
    ∙ sym (sum_by-cons (in_plan f) x xs)

slowed-if : (f : Path → ℕ) → IsLasting f → (s : Settings) (spent : Spent) (xs : List ExtruderPlan) (b : Bool) → sum_by (in_plan f) (cond b (slower_plans s spent xs) xs) ≡ sum_by (in_plan f) xs
slowed-if f h s spent xs true = slower-plans f h s spent xs
slowed-if f h s spent xs false = refl

pub unmoved : (f : Path → ℕ) → IsLasting f → (s : Settings) (xs : List ExtruderPlan) → sum_by (in_plan f) (cooled s xs) ≡ sum_by (in_plan f) xs
unmoved f h s xs =
    timed-plans f h s None (slowed_plans s (spent_on s None xs) xs)
    ∙ slowed-if f h s (spent_on s None xs) xs (is_short s (spent_on s None xs))

length-timed : (s : Settings) (from : Option Pt) (xs : List ExtruderPlan) → length (timed_plans s from xs) ≡ length xs
length-timed s from [] = refl
length-timed s from (x ∷ xs) = ap (λ (n : ℕ). suc n) (length-timed s (end_of_paths from x.paths) xs)

length-slower : (s : Settings) (spent : Spent) (xs : List ExtruderPlan) → length (slower_plans s spent xs) ≡ length xs
length-slower s spent [] = refl
length-slower s spent (x ∷ xs) = ap (λ (n : ℕ). suc n) (length-slower s spent xs)

length-slowed : (s : Settings) (spent : Spent) (xs : List ExtruderPlan) (b : Bool) → length (cond b (slower_plans s spent xs) xs) ≡ length xs
length-slowed s spent xs true = length-slower s spent xs
length-slowed s spent xs false = refl

-- as few moves, as small a volume; and the times are bounded by the moves
cooled-plan : (s : Settings) (xs ys : List ExtruderPlan) → ys ≡ cooled s xs → IsPlan xs → time_in ys ≤ moves_in ys * 2 ^ 43 → IsPlan ys
cooled-plan s xs ys is h time =
    let moves : moves_in ys ≡ moves_in xs = ap moves_in is ∙ unmoved moves_of ((λ p t. refl), (λ p v. refl)) s xs in
    let volume : volume_in ys ≡ volume_in xs = ap volume_in is ∙ unmoved volume_of ((λ p t. refl), (λ p v. refl)) s xs in
    let few = h.few in
    record {
      few = subst (λ (n : ℕ). n < 2 ^ 40) (sym moves) few;
      volume_small = subst (λ (n : ℕ). n ≤ 2 ^ 90) (sym volume) h.volume_small;
      time_small = omega arith;
    }

-- plans that were lent for writing, slowed down and timed, and came back
pub lent : (s : Settings) (now new : List ExtruderPlan) → new ≡ cooled s now → IsPlan now → time_in new ≤ moves_in new * 2 ^ 43 → IsPlan (take (length now) (new ++ drop (length new) now))
lent s now new is h time =
    let same : length new ≡ length now =
    ap (λ (xs : List ExtruderPlan). length xs) is
    ∙ length-timed s None (slowed_plans s (spent_on s None now) now)
    ∙ length-slowed s (spent_on s None now) now (is_short s (spent_on s None now)) in
    let back : take (length now) (new ++ drop (length new) now) ≡ new =
    ap (λ (xs : List ExtruderPlan). take (length now) (new ++ xs)) (drop_all (length new) now (omega arith))
    ∙ ap (λ (xs : List ExtruderPlan). take (length now) xs) (append-nil new)
    ∙ take_all (length now) new (omega arith) in
    subst (λ (xs : List ExtruderPlan). IsPlan xs) (sym back) (cooled-plan s now new is h time)
