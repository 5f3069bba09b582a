-- The preheats of a job, counted by the uses that are switches.
use Rattle.std.proofs.Common.{ℕ, zero, suc, ◌≡◌, ◌+◌, ◌==◌, Bool, true, false, not, cond, List, [], ◌∷◌, ◌++◌, map, length, refl, sym, ap, ◌∙◌}
use Rattle.std.specs.List.{flat_map}
use Rattle.std.proofs.lemmas.List.{append_assoc}
use Rattle.std.proofs.lemmas.Bool.{cond-true, eq-eqb}
use Rattle.std.proofs.Math.Dec.{eqb-suc-zero}
use Rattle.slice_base.specs.Causes.{counted, counted_by}
use Rattle.slice_base.specs.declared.points.Pt.{Pt}
use Rattle.plan_types.specs.Paths.{PathValue}
use Rattle.plan_types.specs.declared.plans.ExtruderPlan.{ExtruderPlan}
use Rattle.plan_types.specs.Plans.{LayerPlanValue}
use Rattle.plan_types.specs.Jobs.{JobValue}
use Rattle.plan_types.specs.Steps.{Step, steps_of_plan, steps_with_lead, steps_of_layer, steps_from}
use Rattle.plan_types.specs.Leads.{origin, with_leads, with_lead, timed_paths, timed_plans, is_first_after, end_of_plans, lead_of}
use Rattle.preheat_plan.specs.Past.{Rules, rules_of, extruder_after}
use Rattle.preheat_plan.specs.Preheats.{Preheat, preheat_of, preheats_after}
use Rattle.preheat_plan.specs.Switches.{preheats_in}
use Rattle.slice_engine.specs.declared.uses.UseCounts.{UseCounts}
use Rattle.slice_engine.specs.Files.{plans_of}
use Rattle.slice_engine.specs.Done.{is_use, with_use, with_plans, with_layers, uses_of}

-- a count after one more for each extruder that isn't the one before it
abbrev more : ℕ → List ℕ → ℕ → ℕ
more last [] n = n
more last (e ∷ es) n = more e es (cond (e == last) n (counted n))

-- ---- the preheats of paths

-- the extruders of paths
abbrev exts : List Step → List ℕ
exts [] = []
exts (s ∷ ss) = s.extruder ∷ exts ss

counted_late : (k n : ℕ) → counted_by k (counted n) ≡ counted (counted_by k n)
counted_late zero n = refl
counted_late (suc k) n = ap counted (counted_late k n)

one_counted : (b : Bool) (p : Preheat) (ps : List Preheat) (n : ℕ) → counted_by (length ps) (cond b n (counted n)) ≡ counted_by (length (cond b [] (p ∷ []) ++ ps)) n
one_counted true p ps n = refl
one_counted false p ps n = counted_late (length ps) n

after_one : (e : ℕ) (past : List Step) (s : Step) → extruder_after e (past ++ s ∷ []) ≡ s.extruder
after_one e [] s = refl
after_one e (x ∷ past) s = after_one x.extruder past s

heats : (r : Rules) (past ss : List Step) (n : ℕ) → more (extruder_after r.first past) (exts ss) n ≡ counted_by (length (preheats_after r past ss)) n
heats r past [] n = refl
heats r past (s ∷ ss) n =
    let m = cond (s.extruder == extruder_after r.first past) n (counted n) in
    ap (λ (e : ℕ). more e (exts ss) m) (sym (after_one r.first past s))
    ∙ heats r (past ++ s ∷ []) ss m
    ∙ one_counted (s.extruder == extruder_after r.first past) (preheat_of r past s) (preheats_after r (past ++ s ∷ []) ss) n

-- ---- the extruders of plans

abbrev exts_of : List ExtruderPlan → List ℕ
exts_of [] = []
exts_of (x ∷ xs) = map (λ (p : PathValue). x.extruder) x.paths ++ exts_of xs

abbrev exts_all : List LayerPlanValue → List ℕ
exts_all [] = []
exts_all (l ∷ ls) = exts_of l.plans ++ exts_all ls

exts-append : (xs ys : List Step) → exts (xs ++ ys) ≡ exts xs ++ exts ys
exts-append [] ys = refl
exts-append (x ∷ xs) ys = ap (λ (es : List ℕ). x.extruder ∷ es) (exts-append xs ys)

exts_led : (lead : ℕ) (ss : List Step) → exts (steps_with_lead lead ss) ≡ exts ss
exts_led lead [] = refl
exts_led lead (s ∷ ss) = refl

exts_mapped : (layer e : ℕ) (ps : List PathValue) → exts (map (λ (p : PathValue). record { layer = layer; extruder = e; time = p.time }) ps) ≡ map (λ (p : PathValue). e) ps
exts_mapped layer e [] = refl
exts_mapped layer e (p ∷ ps) = ap (λ (es : List ℕ). e ∷ es) (exts_mapped layer e ps)

exts_flat : (layer : ℕ) (xs : List ExtruderPlan) → exts (flat_map (steps_of_plan layer) xs) ≡ exts_of xs
exts_flat layer [] = refl
exts_flat layer (x ∷ xs) =
    exts-append (steps_of_plan layer x) (flat_map (steps_of_plan layer) xs)
    ∙ ap (λ (es : List ℕ). es ++ exts (flat_map (steps_of_plan layer) xs)) (exts_mapped layer x.extruder x.paths)
    ∙ ap (λ (es : List ℕ). map (λ (p : PathValue). x.extruder) x.paths ++ es) (exts_flat layer xs)

same_timed : (e : ℕ) (is_first : Bool) (time : ℕ) (ps : List PathValue) → map (λ (p : PathValue). e) (timed_paths is_first time ps) ≡ map (λ (p : PathValue). e) ps
same_timed e is_first time [] = refl
same_timed e is_first time (p ∷ ps) = ap (λ (es : List ℕ). e ∷ es) (same_timed e false (time + p.time) ps)

exts_timed : (is_first : Bool) (time : ℕ) (xs : List ExtruderPlan) → exts_of (timed_plans is_first time xs) ≡ exts_of xs
exts_timed is_first time [] = refl
exts_timed is_first time (x ∷ xs) = rw (same_timed x.extruder is_first time x.paths, exts_timed (is_first_after is_first x.paths) _ xs)

exts_layer : (layer : ℕ) (speed : ℕ → ℕ) (at : Pt) (l : LayerPlanValue) → exts (steps_of_layer layer (with_lead speed at l)) ≡ exts_of l.plans
exts_layer layer speed at l =
    let lead = lead_of speed at l.plans in
    exts_led lead (flat_map (steps_of_plan layer) (timed_plans true lead l.plans)) ∙ exts_flat layer (timed_plans true lead l.plans) ∙ exts_timed true lead l.plans

exts_steps : (layer : ℕ) (speed : ℕ → ℕ) (at : Pt) (ls : List LayerPlanValue) → exts (steps_from layer (with_leads speed at ls)) ≡ exts_all ls
exts_steps layer speed at [] = refl
exts_steps layer speed at (l ∷ ls) =
    let others = steps_from (suc layer) (with_leads speed (end_of_plans at l.plans) ls) in
    exts-append (steps_of_layer layer (with_lead speed at l)) others
    ∙ ap (λ (es : List ℕ). es ++ exts others) (exts_layer layer speed at l)
    ∙ ap (λ (es : List ℕ). exts_of l.plans ++ es) (exts_steps (suc layer) speed (end_of_plans at l.plans) ls)

-- ---- the uses

no_switch : (e : ℕ) (ps : List PathValue) (others : List ℕ) (n : ℕ) → more e (map (λ (p : PathValue). e) ps ++ others) n ≡ more e others n
no_switch e [] others n = refl
no_switch e (p ∷ ps) others n =
    ap (more e (map (λ (p : PathValue). e) ps ++ others)) (cond-true (e == e) n (counted n) (eq-eqb e e refl)) ∙ no_switch e ps others n

-- the switches of further paths, behind these uses
abbrev further : UseCounts → List ℕ → ℕ
further u es = more u.last es u.switches

used : (e : ℕ) (ps : List PathValue) (u : UseCounts) (others : List ℕ) → further u (map (λ (p : PathValue). e) ps ++ others) ≡ further (cond (not (length ps == 0)) (with_use u e) u) others
used e [] u others = refl
used e (p ∷ ps) u others =
    no_switch e ps others (cond (e == u.last) u.switches (counted u.switches))
    ∙ ap (λ (b : Bool). further (cond (not b) (with_use u e) u) others) (sym (eqb-suc-zero (length ps)))

all_used : (xs : List ExtruderPlan) (u : UseCounts) (others : List ℕ) → further u (exts_of xs ++ others) ≡ further (with_plans u xs) others
all_used [] u others = refl
all_used (x ∷ xs) u others =
    ap (further u) (append_assoc (map (λ (p : PathValue). x.extruder) x.paths) (exts_of xs) others)
    ∙ used x.extruder x.paths u (exts_of xs ++ others)
    ∙ all_used xs (cond (is_use x) (with_use u x.extruder) u) others

layers_used : (ls : List LayerPlanValue) (u : UseCounts) → further u (exts_all ls) ≡ (with_layers u ls).switches
layers_used [] u = refl
layers_used (l ∷ ls) u = all_used l.plans u (exts_all ls) ∙ layers_used ls (with_plans u l.plans)

-- each switch is a preheat, and there is no other
pub switches_heated : (job : JobValue) → (uses_of job).switches ≡ counted_by (length (preheats_in (rules_of job) (plans_of job))) 0
switches_heated job =
    let r = rules_of job in
    sym (layers_used (plans_of job) (record { last = job.first; uses = 0; switches = 0 }))
    ∙ ap (λ (es : List ℕ). more job.first es 0) (sym (exts_steps 0 r.speed origin (plans_of job)))
    ∙ heats r [] (steps_from 0 (with_leads r.speed origin (plans_of job))) 0
