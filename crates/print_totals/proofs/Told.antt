-- The time that the file tells behind its last layer.
use Rattle.std.proofs.Common.{ℕ, ◌+◌, ◌≡◌, Bool, true, false, List, [], ◌∷◌, ◌++◌, refl, sym, ap, ◌∙◌, arith}
use Rattle.std.specs.List.{sum_by}
use Rattle.std.proofs.lemmas.List.Sums.{sum_by-cons}
use Rattle.slice_base.specs.declared.points.Pt.{Pt}
use Rattle.settings_core.specs.Values.{ExtruderSettingsValue}
use Rattle.plan_types.specs.declared.plans.ExtruderPlan.{ExtruderPlan}
use Rattle.plan_types.specs.Jobs.{JobValue}
use Rattle.plan_types.specs.Leads.{origin, lead_of, end_of_plans, before_of, timed_paths, timed_plans, is_first_after, with_lead, with_leads}
use Rattle.plan_types.specs.Paths.{PathValue}
use Rattle.plan_types.specs.Plans.{LayerPlanValue, time_of_plan, time_in}
use Rattle.plan_types.specs.Steps.{path_count_of}
use Rattle.gcode_write.specs.declared.progress.Progress.{Progress}
use Rattle.gcode_write.specs.Layers.{after_path, after_paths, after_plans, after_layer, after_layers, entered_of}
use Rattle.gcode_write.specs.Ends.{start_of}
use Rattle.preheat_plan.specs.Past.{rules_of}
use Rattle.preheat_plan.specs.Preheats.{Preheat, preheats_of}
use Rattle.preheat_plan.specs.Completed.{heated_from, inserts_at, completed_of}
use Rattle.print_totals.specs.Totals.{time_from, time_of}

-- ---- what a layer takes, as it is written

on_paths : (es : List ExtruderSettingsValue) (s : Progress) (e : ℕ) (ps : List PathValue) → (after_paths es s e ps).elapsed ≡ s.elapsed + sum_by (λ (p : PathValue). p.time) ps
on_paths es s e [] = omega arith
on_paths es s e (p ∷ ps) = on_paths es (after_path es s e p) e ps ∙ omega (arith, sum_by-cons (λ (q : PathValue). q.time) p ps)

on_plans : (es : List ExtruderSettingsValue) (s : Progress) (xs : List ExtruderPlan) → (after_plans es s xs).elapsed ≡ s.elapsed + time_in xs
on_plans es s [] = omega arith
on_plans es s (x ∷ xs) = on_plans es (after_paths es s x.extruder x.paths) xs ∙ omega (arith, on_paths es s x.extruder x.paths, sum_by-cons time_of_plan x xs)

-- when paths begin doesn't change how long they take
timed_path_times : (is_first : Bool) (time : ℕ) (ps : List PathValue) → sum_by (λ (p : PathValue). p.time) (timed_paths is_first time ps) ≡ sum_by (λ (p : PathValue). p.time) ps
timed_path_times is_first time [] = refl
timed_path_times is_first time (p ∷ ps) =
    let f = λ (q : PathValue). q.time in
    sum_by-cons f (record p { before = before_of is_first time }) (timed_paths false (time + p.time) ps) ∙ ap (λ n. p.time + n) (timed_path_times false (time + p.time) ps) ∙ sym (sum_by-cons f p ps)

timed_plan_times : (is_first : Bool) (time : ℕ) (xs : List ExtruderPlan) → time_in (timed_plans is_first time xs) ≡ time_in xs
timed_plan_times is_first time [] = refl
timed_plan_times is_first time (x ∷ xs) =
    let next = is_first_after is_first x.paths in
    let later = time + sum_by (λ (p : PathValue). p.time) x.paths in
    let head : time_in (timed_plans is_first time (x ∷ xs)) ≡ sum_by (λ (p : PathValue). p.time) (timed_paths is_first time x.paths) + time_in (timed_plans next later xs) =
    sum_by-cons time_of_plan (record x { paths = timed_paths is_first time x.paths }) (timed_plans next later xs) in
    omega (arith, head, timed_path_times is_first time x.paths, timed_plan_times next later xs, sum_by-cons time_of_plan x xs)

-- ---- all layers

on_led : (es : List ExtruderSettingsValue) (speed : ℕ → ℕ) (at : Pt) (s : Progress) (ls : List LayerPlanValue) → (after_layers es s (with_leads speed at ls)).elapsed ≡ s.elapsed + time_from speed at ls
on_led es speed at s [] = omega arith
on_led es speed at s (l ∷ ls) =
    let led = with_lead speed at l in
    let here : (after_layer es s led).elapsed ≡ s.elapsed + led.lead + time_in led.plans = on_plans es (entered_of s led) led.plans in
    omega (arith, on_led es speed (end_of_plans at l.plans) (after_layer es s led) ls, here, timed_plan_times true (lead_of speed at l.plans) l.plans)

-- preheats take no time
pub heated_after : (es : List ExtruderSettingsValue) (degrees : ℕ → ℕ) (at : ℕ) (ps : List Preheat) (s : Progress) (ls : List LayerPlanValue) → after_layers es s (heated_from degrees at ps ls) ≡ after_layers es s ls
heated_after es degrees at ps s [] = refl
heated_after es degrees at ps s (l ∷ ls) = heated_after es degrees (at + path_count_of l) ps (after_layer es s l) ls

-- counted from none
pub from_none : (n : ℕ) → 0 + n ≡ n
from_none n = omega arith

pub told : (job : JobValue) (ls : List LayerPlanValue) → (after_layers job.settings.extruders (start_of job) (completed_of (rules_of job) ls)).elapsed ≡ time_of job ls
told job ls =
    let r = rules_of job in
    let led = with_leads r.speed origin ls in
    ap (λ (s : Progress). s.elapsed) (heated_after job.settings.extruders r.degrees 0 (preheats_of r led) (start_of job) led)
    ∙ on_led job.settings.extruders r.speed origin (start_of job) ls
    ∙ from_none (time_of job ls)
