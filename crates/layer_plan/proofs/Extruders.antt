-- The extruders of a plan are those of the layer's order.
use Rattle.std.proofs.Common.{◌≡◌, ◌≤◌, ◌<◌, ◌+◌, ◌==◌, ℕ, Bool, true, false, cond, List, [], ◌∷◌, length, Option, None, refl, sym, ap, ◌∙◌, subst, arith}
use Rattle.std.specs.List.{All, sum_by, count_by}
use Rattle.std.proofs.lemmas.List.Sums.{sum_by-cons}
use Rattle.std.proofs.lemmas.List.Elements.{All-nil, All-cons, All-head, All-tail}
use Rattle.slice_base.specs.declared.points.Pt.{Pt}
use Rattle.settings_core.specs.Values.{SettingsValue as Settings}
use Rattle.plan_types.specs.Areas.{MeshAreasValue as MeshAreas}
use Rattle.plan_types.specs.Jobs.{JobValue as Job, IsJob, IsLayer, Names}
use Rattle.plan_types.specs.declared.jobs.LayerAreas.{LayerAreas}
use Rattle.plan_types.specs.Plans.{EachOnce}
use Rattle.plan_types.specs.declared.plans.ExtruderPlan.{ExtruderPlan}
use Rattle.time_cool.specs.Cooling.{end_of_paths, timed_plan, timed_plans, slower_plan, slower_plans, slowed_plans, is_short, spent_on, cooled}
use Rattle.layer_plan.specs.declared.groups.Sheet.{Sheet}
use Rattle.layer_plan.specs.Plan.{start_of, drawn, drawn_plans, no_layer, layer_of, plan_of}

-- 1 for a plan of extruder e
abbrev pub one_for : ℕ → ExtruderPlan → ℕ
one_for e x = cond (x.extruder == e) 1 0

-- ---- as many plans of each extruder as the order has

timed-count : (e : ℕ) (s : Settings) (from : Option Pt) (xs : List ExtruderPlan) → sum_by (one_for e) (timed_plans s from xs) ≡ sum_by (one_for e) xs
timed-count e s from [] = refl
timed-count e s from (x ∷ xs) =
    sum_by-cons (one_for e) (timed_plan s from x) (timed_plans s (end_of_paths from x.paths) xs)
    ∙ ap (λ n. one_for e x + n) (timed-count e s (end_of_paths from x.paths) xs)
    ∙ sym (sum_by-cons (one_for e) x xs)

slower-count : (e : ℕ) (s : Settings) (all xs : List ExtruderPlan) → sum_by (one_for e) (slower_plans s (spent_on s None all) xs) ≡ sum_by (one_for e) xs
slower-count e s all [] = refl
slower-count e s all (x ∷ xs) =
    sum_by-cons (one_for e) (slower_plan s (spent_on s None all) x) (slower_plans s (spent_on s None all) xs)
    ∙ ap (λ n. one_for e x + n) (slower-count e s all xs)
    ∙ sym (sum_by-cons (one_for e) x xs)

slowed-count : (e : ℕ) (s : Settings) (all xs : List ExtruderPlan) (b : Bool) → sum_by (one_for e) (cond b (slower_plans s (spent_on s None all) xs) xs) ≡ sum_by (one_for e) xs
slowed-count e s all xs true = slower-count e s all xs
slowed-count e s all xs false = refl

cooled-count : (e : ℕ) (s : Settings) (xs : List ExtruderPlan) → sum_by (one_for e) (cooled s xs) ≡ sum_by (one_for e) xs
cooled-count e s xs = timed-count e s None (slowed_plans s (spent_on s None xs) xs) ∙ slowed-count e s xs xs (is_short s (spent_on s None xs))

drawn-count : (e : ℕ) (job : Job) (sheet : Sheet) (areas : List MeshAreas) (first : Bool) (at : Pt) (es : List ℕ) → sum_by (one_for e) (drawn_plans job sheet areas first at es) ≡ count_by (λ k. k == e) es
drawn-count e job sheet areas first at [] = refl
drawn-count e job sheet areas first at (x ∷ xs) =
    sum_by-cons (one_for e) (record { extruder = x; paths = (drawn job sheet areas first at x).paths }) (drawn_plans job sheet areas false (drawn job sheet areas first at x).at xs)
    ∙ ap (λ n. cond (x == e) 1 0 + n) (drawn-count e job sheet areas false (drawn job sheet areas first at x).at xs)
    ∙ sym (sum_by-cons (λ k. cond (k == e) 1 0) x xs)

pub drawn-once : (job : Job) (sheet : Sheet) (areas : List MeshAreas) (at : Pt) (es : List ℕ) (plans : List ExtruderPlan) → plans ≡ drawn_plans job sheet areas true at es → ((e : ℕ) → count_by (λ k. k == e) es ≤ 1) → EachOnce plans
drawn-once job sheet areas at es plans is once = λ e.
    let same = ap (λ (xs : List ExtruderPlan). sum_by (one_for e) xs) is ∙ drawn-count e job sheet areas true at es in
    subst (λ (n : ℕ). n ≤ 1) (sym same) (once e)

pub cooled-once : (s : Settings) (xs ys : List ExtruderPlan) → ys ≡ cooled s xs → EachOnce xs → EachOnce ys
cooled-once s xs ys is once = λ e.
    let same = ap (λ (zs : List ExtruderPlan). sum_by (one_for e) zs) is ∙ cooled-count e s xs in
    subst (λ (n : ℕ). n ≤ 1) (sym same) (once e)

-- ---- the settings have each of them

drawn-known : (s : Settings) (job : Job) (sheet : Sheet) (areas : List MeshAreas) (first : Bool) (at : Pt) (es : List ℕ) → All (λ e. e < length s.extruders) es → All (Names s) (drawn_plans job sheet areas first at es)
drawn-known s job sheet areas first at [] h = All-nil (Names s)
drawn-known s job sheet areas first at (x ∷ xs) h =
    All-cons (Names s) (record { extruder = x; paths = (drawn job sheet areas first at x).paths }) (drawn_plans job sheet areas false (drawn job sheet areas first at x).at xs)
    (All-head (λ e. e < length s.extruders) x xs h) (drawn-known s job sheet areas false (drawn job sheet areas first at x).at xs (All-tail (λ e. e < length s.extruders) x xs h))

pub plans-known : (job : Job) (sheet : Sheet) (areas : List MeshAreas) (at : Pt) (es : List ℕ) (plans : List ExtruderPlan) → plans ≡ drawn_plans job sheet areas true at es → All (λ e. e < length job.settings.extruders) es → All (Names job.settings) plans
plans-known job sheet areas at es plans is h = subst (λ (xs : List ExtruderPlan). All (Names job.settings) xs) (sym is) (drawn-known job.settings job sheet areas true at es h)

timed-known : (s : Settings) (from : Option Pt) (xs : List ExtruderPlan) → All (Names s) xs → All (Names s) (timed_plans s from xs)
timed-known s from [] h = h
timed-known s from (x ∷ xs) h =
    All-cons (Names s) (timed_plan s from x) (timed_plans s (end_of_paths from x.paths) xs) (All-head (Names s) x xs h) (timed-known s (end_of_paths from x.paths) xs (All-tail (Names s) x xs h))

slower-known : (s : Settings) (all xs : List ExtruderPlan) → All (Names s) xs → All (Names s) (slower_plans s (spent_on s None all) xs)
slower-known s all [] h = h
slower-known s all (x ∷ xs) h =
    All-cons (Names s) (slower_plan s (spent_on s None all) x) (slower_plans s (spent_on s None all) xs) (All-head (Names s) x xs h) (slower-known s all xs (All-tail (Names s) x xs h))

slowed-known : (s : Settings) (all xs : List ExtruderPlan) (b : Bool) → All (Names s) xs → All (Names s) (cond b (slower_plans s (spent_on s None all) xs) xs)
slowed-known s all xs true h = slower-known s all xs h
slowed-known s all xs false h = h

-- ---- by the definitions alone

pub planned-known : (job : Job) (n : ℕ) → IsJob job.settings job.layers job.skirt job.first job.used → n < length job.layers → All (Names job.settings) (plan_of job n).plans
planned-known job n h below =
    let s = job.settings in
    let layer : LayerAreas = layer_of job n in
    let is : IsLayer s layer = h.layers_are n no_layer below in
    let sheet : Sheet = record { number = n; thickness = layer.thickness } in
    let xs = drawn_plans job sheet layer.meshes true (start_of s) layer.order in
    timed-known s None (slowed_plans s (spent_on s None xs) xs) (slowed-known s xs xs (is_short s (spent_on s None xs)) (drawn-known s job sheet layer.meshes true (start_of s) layer.order is.known))

pub planned-once : (job : Job) (n : ℕ) → IsJob job.settings job.layers job.skirt job.first job.used → n < length job.layers → EachOnce (plan_of job n).plans
planned-once job n h below =
    let s = job.settings in
    let layer : LayerAreas = layer_of job n in
    let is : IsLayer s layer = h.layers_are n no_layer below in
    let sheet : Sheet = record { number = n; thickness = layer.thickness } in
    let xs = drawn_plans job sheet layer.meshes true (start_of s) layer.order in
    cooled-once s xs (cooled s xs) refl (drawn-once job sheet layer.meshes (start_of s) layer.order xs refl is.once)
