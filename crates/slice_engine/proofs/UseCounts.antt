-- The uses of extruders, layer by layer.
use Rattle.std.proofs.Common.{ℕ, ◌≡◌, ◌<◌, ◌≤◌, ◌+◌, ◌∷◌, length, drop, sym, ap, subst, ◌∙◌, arith}
use Rattle.std.proofs.lemmas.List.{drop_more}
use Rattle.std.proofs.lemmas.List.FromFn.{length-map-range_with_len, get_or-map-range_with_len}
use Rattle.std.proofs.Math.ListN.{drop_of_length-le}
use Rattle.plan_types.specs.Jobs.{JobValue}
use Rattle.plan_types.specs.Plans.{LayerPlanValue}
use Rattle.layer_plan.specs.Plan.{plan_of}
use Rattle.slice_engine.specs.declared.uses.UseCounts.{UseCounts}
use Rattle.slice_engine.specs.Files.{plans_of}
use Rattle.slice_engine.specs.Done.{with_plans, with_layers}

-- the plans from one layer on, by its plan
plans_from : (job : JobValue) (k : ℕ) → k < length job.layers → drop k (plans_of job) ≡ plan_of job k ∷ drop (k + 1) (plans_of job)
plans_from job k below =
    drop_more (plans_of job) k (plan_of job k) (subst (λ (n : ℕ). k < n) (sym (length-map-range_with_len (plan_of job) 0 (length job.layers))) below)
    ∙ ap (λ (p : LayerPlanValue). p ∷ drop (k + 1) (plans_of job)) (get_or-map-range_with_len (plan_of job) 0 (length job.layers) k k (plan_of job k) below (omega arith))

-- the uses on one layer more
pub layer_counted : (job : JobValue) (k : ℕ) (u v all : UseCounts) (plan : LayerPlanValue) → k < length job.layers → plan ≡ plan_of job k → v ≡ with_plans u plan.plans
    → with_layers u (drop k (plans_of job)) ≡ all → with_layers v (drop (k + 1) (plans_of job)) ≡ all
layer_counted job k u v all plan below same more so_far =
    ap (λ (x : UseCounts). with_layers x (drop (k + 1) (plans_of job))) (more ∙ ap (λ (p : LayerPlanValue). with_plans u p.plans) same)
    ∙ sym (ap (with_layers u) (plans_from job k below))
    ∙ so_far

-- the uses on all layers
pub all_counted : (job : JobValue) (k : ℕ) (u all : UseCounts) → length job.layers ≤ k → with_layers u (drop k (plans_of job)) ≡ all → u ≡ all
all_counted job k u all past so_far =
    sym (ap (with_layers u) (drop_of_length-le (plans_of job) (subst (λ (n : ℕ). n ≤ k) (sym (length-map-range_with_len (plan_of job) 0 (length job.layers))) past)))
    ∙ so_far
