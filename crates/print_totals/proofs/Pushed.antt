-- Where E stands in the end, where one extruder prints all.
use Rattle.std.proofs.Common.{ℕ, ◌+◌, ◌*◌, ◌<◌, ◌≡◌, ◌==◌, Bool, true, false, cond, List, [], ◌∷◌, length, refl, sym, ap, ◌∙◌, arith}
use Rattle.std.specs.Prelude.{nat_lt}
use Rattle.std.specs.Int.RustNames.{unsigned_abs}
use Rattle.std.specs.List.{All, sum_by}
use Rattle.std.proofs.Math.Nat.{add-mul}
use Rattle.std.proofs.lemmas.Bool.{cond-true, eq-eqb, lt-ltb}
use Rattle.std.proofs.lemmas.List.Elements.{All-head, All-tail}
use Rattle.std.proofs.lemmas.List.Sums.{sum_by-cons}
use Rattle.slice_base.specs.declared.points.Pt.{Pt}
use Rattle.settings_core.specs.Values.{ExtruderSettingsValue}
use Rattle.plan_types.specs.declared.plans.ExtruderPlan.{ExtruderPlan}
use Rattle.plan_types.specs.Extruders.{extruder_of}
use Rattle.plan_types.specs.Jobs.{JobValue}
use Rattle.plan_types.specs.Leads.{origin, lead_of, end_of_plans, before_of, timed_paths, timed_plans, is_first_after, with_lead, with_leads}
use Rattle.plan_types.specs.Paths.{PathValue}
use Rattle.plan_types.specs.Plans.{LayerPlanValue, volume_of, volume_of_plan, volume_in}
use Rattle.gcode_write.specs.declared.progress.Progress.{Progress}
use Rattle.gcode_write.specs.Filament.{extruded_of}
use Rattle.gcode_write.specs.Layers.{after_path, after_paths, after_plans, after_layer, after_layers, entered_of}
use Rattle.gcode_write.specs.Ends.{start_of}
use Rattle.preheat_plan.specs.Past.{rules_of}
use Rattle.preheat_plan.specs.Preheats.{preheats_of}
use Rattle.preheat_plan.specs.Completed.{completed_of}
use Rattle.print_totals.specs.Totals.{volume_by, volume_on, filament_of}
use Rattle.print_totals.specs.Told.{IsAllOf}
use Rattle.print_totals.proofs.Told.{heated_after, from_none}

-- the flow of an extruder
abbrev flow_of : List ExtruderSettingsValue → ℕ → ℕ
flow_of es e = (extruder_of es e).material_flow

-- the extruder in use is e, and so much was printed since the last zero
record StandsAt (s : Progress) (e volume : ℕ) : Type 0 where
  in_use : s.extruder ≡ e
  printed : s.volume ≡ volume

more : (v a b f : ℕ) → v + a * f + b * f ≡ v + (a + b) * f
more v a b f = omega (arith, add-mul a b f)

one_path : (es : List ExtruderSettingsValue) (s : Progress) (e v : ℕ) (p : PathValue) → StandsAt s e v → StandsAt (after_path es s e p) e (v + volume_of p * flow_of es e)
one_path es s e v p h = record {
  in_use = refl;
  printed = ap (λ n. n + volume_of p * flow_of es e) (cond-true (s.extruder == e) s.volume 0 (eq-eqb s.extruder e h.in_use) ∙ h.printed);
}

same_place : (s : Progress) (e v w : ℕ) → v ≡ w → StandsAt s e v → StandsAt s e w
same_place s e v w same h = record { in_use = h.in_use; printed = h.printed ∙ same }

on_paths : (es : List ExtruderSettingsValue) (s : Progress) (e v : ℕ) (ps : List PathValue) → StandsAt s e v → StandsAt (after_paths es s e ps) e (v + sum_by volume_of ps * flow_of es e)
on_paths es s e v [] h = same_place s e v (v + 0 * flow_of es e) (omega arith) h
on_paths es s e v (p ∷ ps) h =
    same_place (after_paths es (after_path es s e p) e ps) e (v + volume_of p * flow_of es e + sum_by volume_of ps * flow_of es e) (v + sum_by volume_of (p ∷ ps) * flow_of es e)
    (more v (volume_of p) (sum_by volume_of ps) (flow_of es e) ∙ ap (λ n. v + n * flow_of es e) (sym (sum_by-cons volume_of p ps)))
    (on_paths es (after_path es s e p) e (v + volume_of p * flow_of es e) ps (one_path es s e v p h))

-- ---- when paths begin changes neither their extruders nor their volumes

timed_volumes : (is_first : Bool) (time : ℕ) (ps : List PathValue) → sum_by volume_of (timed_paths is_first time ps) ≡ sum_by volume_of ps
timed_volumes is_first time [] = refl
timed_volumes is_first time (p ∷ ps) =
    sum_by-cons volume_of (record p { before = before_of is_first time }) (timed_paths false (time + p.time) ps) ∙ ap (λ n. volume_of p + n) (timed_volumes false (time + p.time) ps) ∙ sym (sum_by-cons volume_of p ps)

on_timed : (es : List ExtruderSettingsValue) (s : Progress) (e v : ℕ) (is_first : Bool) (time : ℕ) (xs : List ExtruderPlan) → All (λ x. x.extruder ≡ e) xs → StandsAt s e v
    → StandsAt (after_plans es s (timed_plans is_first time xs)) e (v + volume_in xs * flow_of es e)
on_timed es s e v is_first time [] all h = same_place s e v (v + 0 * flow_of es e) (omega arith) h
on_timed es s e v is_first time (x ∷ xs) all h =
    let here : x.extruder ≡ e = All-head (λ (y : ExtruderPlan). y.extruder ≡ e) x xs all in
    let ps = timed_paths is_first time x.paths in
    let n = v + volume_of_plan x * flow_of es e in
    let next = is_first_after is_first x.paths in
    let later = time + sum_by (λ (p : PathValue). p.time) x.paths in
    let at : StandsAt (after_paths es s e ps) e n =
    same_place (after_paths es s e ps) e (v + sum_by volume_of ps * flow_of es e) n (ap (λ k. v + k * flow_of es e) (timed_volumes is_first time x.paths)) (on_paths es s e v ps h) in
    let one : StandsAt (after_paths es s x.extruder ps) e n = rw here at in
    same_place (after_plans es (after_paths es s x.extruder ps) (timed_plans next later xs)) e (n + volume_in xs * flow_of es e) (v + volume_in (x ∷ xs) * flow_of es e)
    (more v (volume_of_plan x) (volume_in xs) (flow_of es e) ∙ ap (λ k. v + k * flow_of es e) (sym (sum_by-cons volume_of_plan x xs)))
    (on_timed es (after_paths es s x.extruder ps) e n next later xs (All-tail (λ (y : ExtruderPlan). y.extruder ≡ e) x xs all) one)

-- ---- all that is printed is of the one extruder

by_one : (e : ℕ) (xs : List ExtruderPlan) → All (λ x. x.extruder ≡ e) xs → volume_by e xs ≡ volume_in xs
by_one e [] all = refl
by_one e (x ∷ xs) all =
    let kept = λ (y : ExtruderPlan). cond (y.extruder == e) (volume_of_plan y) 0 in
    sum_by-cons kept x xs
    ∙ ap (λ n. n + sum_by kept xs) (cond-true (x.extruder == e) (volume_of_plan x) 0 (eq-eqb x.extruder e (All-head (λ (y : ExtruderPlan). y.extruder ≡ e) x xs all)))
    ∙ ap (λ n. volume_of_plan x + n) (by_one e xs (All-tail (λ (y : ExtruderPlan). y.extruder ≡ e) x xs all))
    ∙ sym (sum_by-cons volume_of_plan x xs)

on_led : (es : List ExtruderSettingsValue) (speed : ℕ → ℕ) (at : Pt) (s : Progress) (e v : ℕ) (ls : List LayerPlanValue) → IsAllOf e ls → StandsAt s e v
    → StandsAt (after_layers es s (with_leads speed at ls)) e (v + volume_on e ls * flow_of es e)
on_led es speed at s e v [] all h = same_place s e v (v + 0 * flow_of es e) (omega arith) h
on_led es speed at s e v (l ∷ ls) all h =
    let P = λ (k : LayerPlanValue). All (λ (x : ExtruderPlan). x.extruder ≡ e) k.plans in
    let led = with_lead speed at l in
    let here : All (λ (x : ExtruderPlan). x.extruder ≡ e) l.plans = All-head P l ls all in
    let n = v + volume_in l.plans * flow_of es e in
    let entered : StandsAt (entered_of s led) e v = record { in_use = h.in_use; printed = h.printed } in
    let one : StandsAt (after_layer es s led) e n = on_timed es (entered_of s led) e v true (lead_of speed at l.plans) l.plans here entered in
    let total : volume_in l.plans + volume_on e ls ≡ volume_on e (l ∷ ls) =
    ap (λ k. k + volume_on e ls) (sym (by_one e l.plans here)) ∙ sym (sum_by-cons (λ (k : LayerPlanValue). volume_by e k.plans) l ls) in
    same_place (after_layers es (after_layer es s led) (with_leads speed (end_of_plans at l.plans) ls)) e (n + volume_on e ls * flow_of es e) (v + volume_on e (l ∷ ls) * flow_of es e)
    (more v (volume_in l.plans) (volume_on e ls) (flow_of es e) ∙ ap (λ k. v + k * flow_of es e) total)
    (on_led es speed (end_of_plans at l.plans) (after_layer es s led) e n ls (All-tail P l ls all) one)

pub pushed : (job : JobValue) (ls : List LayerPlanValue) → job.first < length job.settings.extruders → IsAllOf job.first ls
    → filament_of job ls job.first ≡ unsigned_abs (extruded_of (extruder_of job.settings.extruders job.first) (after_layers job.settings.extruders (start_of job) (completed_of (rules_of job) ls)).volume)
pushed job ls known all =
    let es = job.settings.extruders in
    let e = job.first in
    let r = rules_of job in
    let led = with_leads r.speed origin ls in
    let begun : StandsAt (start_of job) e 0 = record { in_use = refl; printed = refl } in
    let end = on_led es r.speed origin (start_of job) e 0 ls all begun in
    let is : (after_layers es (start_of job) (completed_of r ls)).volume ≡ volume_on e ls * flow_of es e =
    ap (λ (s : Progress). s.volume) (heated_after es r.degrees 0 (preheats_of r led) (start_of job) led) ∙ end.printed ∙ from_none (volume_on e ls * flow_of es e) in
    cond-true (nat_lt e (length es)) (unsigned_abs (extruded_of (extruder_of es e) (volume_on e ls * flow_of es e))) 0 (lt-ltb e (length es) known)
    ∙ ap (λ n. unsigned_abs (extruded_of (extruder_of es e) n)) (sym is)
