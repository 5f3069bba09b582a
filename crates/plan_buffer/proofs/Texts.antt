-- The texts of layers, one after another, and what they rest on.
use Rattle.std.proofs.Common.{ℕ, ◌+◌, ◌-◌, ◌≤◌, ◌<◌, ◌≡◌, List, [], ◌∷◌, ◌++◌, length, take, drop, Option, Some, None, refl, ap, sym, ◌∙◌, subst, arith, append_assoc, ⊎_elim}
use Rattle.std.proofs.lemmas.List.{append-nil, length-append, length-take-le, take-append-drop, take_at, take_all, drop_all, take-take, drop-take, take-append-le}
use Rattle.std.proofs.lemmas.Bool.{cases_lt}
use Rattle.std.proofs.Math.Seq.{take-add}
use Rattle.slice_base.specs.Shapes.{Bytes}
use Rattle.settings_core.specs.Values.{ExtruderSettingsValue}
use Rattle.outside.specs.Holding.{Gained, GainedFront}
use Rattle.plan_types.specs.Jobs.{JobValue}
use Rattle.plan_types.specs.Plans.{LayerPlanValue}
use Rattle.gcode_write.specs.declared.progress.Progress.{Progress}
use Rattle.gcode_write.specs.Layers.{layer_text_of, after_layer, layers_text_of, after_layers}
use Rattle.gcode_write.specs.Ends.{header_of, footer_of, start_of}
use Rattle.preheat_plan.specs.Past.{Rules, rules_of}
use Rattle.preheat_plan.specs.Completed.{completed_of}
use Rattle.plan_buffer.specs.File.{file_of, text_up_to, written_of, layer_of, text_of}

-- what the crate below proves of completed plans: they rest on a window
abbrev pub RestsOnAWindow : Type 0
RestsOnAWindow = (r : Rules) (n : ℕ) (xs ys : List LayerPlanValue) → take (n + r.window) xs ≡ take (n + r.window) ys → take n (completed_of r xs) ≡ take n (completed_of r ys)

pub layers_text-append : (es : List ExtruderSettingsValue) (s : Progress) (xs ys : List LayerPlanValue) → layers_text_of es s (xs ++ ys) ≡ layers_text_of es s xs ++ layers_text_of es (after_layers es s xs) ys
layers_text-append es s [] ys = refl
layers_text-append es s (x ∷ xs) ys = ap (λ (t : Bytes). layer_text_of es s x ++ t) (layers_text-append es (after_layer es s x) xs ys) ∙ sym (append_assoc (layer_text_of es s x) (layers_text_of es (after_layer es s x) xs) (layers_text_of es (after_layers es (after_layer es s x) xs) ys))

pub after_layers-append : (es : List ExtruderSettingsValue) (s : Progress) (xs ys : List LayerPlanValue) → after_layers es s (xs ++ ys) ≡ after_layers es (after_layers es s xs) ys
after_layers-append es s [] ys = refl
after_layers-append es s (x ∷ xs) ys = after_layers-append es (after_layer es s x) xs ys

-- a list that has something behind its first n is no shorter than that
longer : (c rest : List LayerPlanValue) (p : LayerPlanValue) (n : ℕ) → drop n c ≡ p ∷ rest → n ≤ length c
longer c rest p n e = ⊎_elim (λ (short : length c < n). absurd (omega (arith, ap length (sym (drop_all n c (omega (arith, short))) ∙ e)))) (λ (h : n ≤ length c). h) (cases_lt (length c) n)

pub one_on : (c rest : List LayerPlanValue) (p : LayerPlanValue) (n : ℕ) → drop n c ≡ p ∷ rest → take (n + 1) c ≡ take n c ++ p ∷ []
one_on c rest p n e =
    let near = take n c in
    let size : length (near ++ p ∷ []) ≡ n + 1 = length-append near (p ∷ []) ∙ ap (λ k. k + 1) (length-take-le n c (longer c rest p n e)) in
    let parts : c ≡ (near ++ p ∷ []) ++ rest = sym (take-append-drop n c) ∙ ap (λ (ls : List LayerPlanValue). near ++ ls) e ∙ sym (append_assoc near (p ∷ []) rest) in
    ap (take (n + 1)) parts ∙ take_at (near ++ p ∷ []) rest (n + 1) size

-- the text of one layer more
pub text_on : (job : JobValue) (plans rest : List LayerPlanValue) (p : LayerPlanValue) (n : ℕ) (s : Progress) → drop n (completed_of (rules_of job) plans) ≡ p ∷ rest → s ≡ after_layers job.settings.extruders (start_of job) (take n (completed_of (rules_of job) plans)) → text_up_to job plans n ++ layer_text_of job.settings.extruders s p ≡ text_up_to job plans (n + 1)
text_on job plans rest p n s front stands =
    let es = job.settings.extruders in
    let c = completed_of (rules_of job) plans in
    let near = take n c in
    append_assoc (header_of job) (layers_text_of es (start_of job) near) (layer_text_of es s p)
    ∙ ap (λ (t : Bytes). header_of job ++ t) (ap (λ (s : Progress). layers_text_of es (start_of job) near ++ layer_text_of es s p) stands
    ∙ ap (λ (t : Bytes). layers_text_of es (start_of job) near ++ t) (sym (append-nil (layer_text_of es (after_layers es (start_of job) near) p)))
    ∙ sym (layers_text-append es (start_of job) near (p ∷ []))
    ∙ ap (layers_text_of es (start_of job)) (sym (one_on c rest p n front)))

pub stands_on : (job : JobValue) (plans rest : List LayerPlanValue) (p : LayerPlanValue) (n : ℕ) (s t : Progress) → drop n (completed_of (rules_of job) plans) ≡ p ∷ rest → s ≡ after_layers job.settings.extruders (start_of job) (take n (completed_of (rules_of job) plans)) → t ≡ after_layer job.settings.extruders s p → t ≡ after_layers job.settings.extruders (start_of job) (take (n + 1) (completed_of (rules_of job) plans))
stands_on job plans rest p n s t front stands next =
    let es = job.settings.extruders in
    let c = completed_of (rules_of job) plans in
    next ∙ ap (λ (s : Progress). after_layer es s p) stands ∙ sym (after_layers-append es (start_of job) (take n c) (p ∷ [])) ∙ ap (after_layers es (start_of job)) (sym (one_on c rest p n front))

-- the layers written stay as they were
pub stays : RestsOnAWindow → (r : Rules) (ls : List LayerPlanValue) (l : LayerPlanValue) → take (length ls - r.window) (completed_of r ls) ≡ take (length ls - r.window) (completed_of r (ls ++ l ∷ []))
stays rests r ls l =
    let w = r.window in
    let k = length ls in
    ⊎_elim
    (λ (short : k < w). let z : k - w ≡ 0 = omega (arith, short) in rw z refl)
    (λ (long : w ≤ k). let e : (k - w) + w ≡ k = omega (arith, long) in
    rests r (k - w) ls (ls ++ l ∷ []) (ap (λ n. take n ls) e ∙ sym (ap (λ n. take n (ls ++ l ∷ [])) e ∙ take-append-le k ls (l ∷ []) (omega arith))))
    (cases_lt k w)

layer_of-first : (job : JobValue) (c : List LayerPlanValue) (n : ℕ) → layer_of job c n ≡ layer_of job (take (n + 1) c) n
layer_of-first job c n = rw (drop-take n 1 c, take-take n (n + 1) c (omega arith), take-take 1 1 (drop n c) (omega arith)) refl

-- two lists of plans that agree on all layers below n + w + 1 have the same text of layer n
pub text_rests : RestsOnAWindow → (job : JobValue) (n : ℕ) (xs ys : List LayerPlanValue) → take (n + job.settings.preheat_window_layers + 1) xs ≡ take (n + job.settings.preheat_window_layers + 1) ys → text_of job xs n ≡ text_of job ys n
text_rests rests job n xs ys same =
    let r = rules_of job in
    let e : n + job.settings.preheat_window_layers + 1 ≡ (n + 1) + job.settings.preheat_window_layers = omega arith in
    layer_of-first job (completed_of r xs) n ∙ ap (λ (c : List LayerPlanValue). layer_of job c n) (rests r (n + 1) xs ys (rw e at same)) ∙ sym (layer_of-first job (completed_of r ys) n)

-- what is written once k plans were accepted rests on them alone
pub written_rests : RestsOnAWindow → (job : JobValue) (k : ℕ) (ls : List LayerPlanValue) → written_of job ls k ≡ written_of job (take k ls) k
written_rests rests job k ls =
    let r = rules_of job in
    let w = r.window in
    let same : take (k - w) (completed_of r ls) ≡ take (k - w) (completed_of r (take k ls)) =
    ⊎_elim (λ (few : k < w). let z : k - w ≡ 0 = omega (arith, few) in rw z refl)
    (λ (many : w ≤ k). let e : (k - w) + w ≡ k = omega (arith, many) in
    rests r (k - w) ls (take k ls) (ap (λ n. take n ls) e ∙ sym (ap (λ n. take n (take k ls)) e ∙ take-take k k ls (omega arith))))
    (cases_lt k w) in
    ap (λ (c : List LayerPlanValue). header_of job ++ layers_text_of job.settings.extruders (start_of job) c) same

-- a text up to some layer is a front of the file
abbrev pub rest_from : JobValue → List LayerPlanValue → ℕ → Bytes
rest_from job plans n =
    layers_text_of job.settings.extruders (after_layers job.settings.extruders (start_of job) (take n (completed_of (rules_of job) plans))) (drop n (completed_of (rules_of job) plans)) ++ footer_of job

text_front : (job : JobValue) (plans : List LayerPlanValue) (n : ℕ) → text_up_to job plans n ++ rest_from job plans n ≡ file_of job plans
text_front job plans n =
    let es = job.settings.extruders in
    let c = completed_of (rules_of job) plans in
    let near = layers_text_of es (start_of job) (take n c) in
    let far = layers_text_of es (after_layers es (start_of job) (take n c)) (drop n c) in
    sym (append_assoc (header_of job ++ near) far (footer_of job))
    ∙ ap (λ (t : Bytes). t ++ footer_of job) (append_assoc (header_of job) near far ∙ ap (λ (t : Bytes). header_of job ++ t) (sym (layers_text-append es (start_of job) (take n c) (drop n c)) ∙ ap (layers_text_of es (start_of job)) (take-append-drop n c)))

-- all layers and the footer are the file
pub whole_text : (job : JobValue) (plans : List LayerPlanValue) (n : ℕ) → length (completed_of (rules_of job) plans) ≤ n → text_up_to job plans n ++ footer_of job ≡ file_of job plans
whole_text job plans n all = ap (λ (c : List LayerPlanValue). (header_of job ++ layers_text_of job.settings.extruders (start_of job) c) ++ footer_of job) (take_all n (completed_of (rules_of job) plans) all)

-- what is written once k plans were accepted is a front of the file
pub written_front : RestsOnAWindow → (job : JobValue) (k : ℕ) (plans : List LayerPlanValue) → written_of job (take k plans) k ++ rest_from job plans (k - job.settings.preheat_window_layers) ≡ file_of job plans
written_front rests job k plans =
    ap (λ (t : Bytes). t ++ rest_from job plans (k - job.settings.preheat_window_layers)) (sym (written_rests rests job k plans)) ∙ text_front job plans (k - job.settings.preheat_window_layers)

-- a front of a front is a front of the whole
pub front_of : (before now : Option Bytes) (text rest whole : Bytes) → text ++ rest ≡ whole → GainedFront before text now → GainedFront before whole now
front_of before now text rest whole parts p = subst (λ (t : Bytes). GainedFront before t now) parts (record {
  taken = p.taken;
  within = omega (arith, p.within, length-append text rest);
  held = subst (λ (t : Bytes). Gained before t now) (sym (take-append-le p.taken text rest p.within)) p.held;
})

-- the text of the next layer behind those of the first ones
pub text_next : (job : JobValue) (plans : List LayerPlanValue) (n : ℕ) → text_up_to job plans n ++ text_of job plans n ≡ text_up_to job plans (n + 1)
text_next job plans n =
    let es = job.settings.extruders in
    let c = completed_of (rules_of job) plans in
    let near = take n c in
    let next = take 1 (drop n c) in
    append_assoc (header_of job) (layers_text_of es (start_of job) near) (layers_text_of es (after_layers es (start_of job) near) next)
    ∙ ap (λ (t : Bytes). header_of job ++ t) (sym (layers_text-append es (start_of job) near next) ∙ ap (layers_text_of es (start_of job)) (sym (take-add n 1 c)))
