-- The sums of a job's plans, one plan more, and all of them.
use Rattle.std.proofs.Common.{◌≡◌, ◌≤◌, ◌<◌, ◌+◌, ℕ, List, ◌∷◌, [], ◌++◌, length, take, ap, subst, ◌∙◌}
use Rattle.plan_types.specs.Jobs.{JobValue}
use Rattle.plan_types.specs.Plans.{LayerPlanValue}
use Rattle.layer_plan.specs.Plan.{plan_of}
use Rattle.print_totals.specs.Spending.{SpentValue, HasSpent}
use Rattle.slice_engine.specs.Files.{plans_of}
use Rattle.slice_engine.proofs.Streams.{take_count, take_more, take_all}

-- one plan more
pub spent_next : (job : JobValue) (k : ℕ) (plan : LayerPlanValue) (old new : SpentValue) → k < length job.layers → plan ≡ plan_of job k
    → ((ls : List LayerPlanValue) → HasSpent job ls old → HasSpent job (ls ++ plan ∷ []) new) → HasSpent job (take k (plans_of job)) old → HasSpent job (take (k + 1) (plans_of job)) new
spent_next job k plan old new below is more h =
    let plans : take k (plans_of job) ++ plan ∷ [] ≡ take (k + 1) (plans_of job) = ap (λ (p : LayerPlanValue). take k (plans_of job) ++ p ∷ []) is ∙ take_more job k below in
    subst (λ (ls : List LayerPlanValue). HasSpent job ls new) plans (more (take k (plans_of job)) h)

-- as many plans were added as layers were planned
pub spent_count : (job : JobValue) (k : ℕ) (spent : SpentValue) → k ≤ length job.layers → HasSpent job (take k (plans_of job)) spent → spent.plans ≡ k
spent_count job k spent few h = h.plans ∙ take_count job k few

-- all plans were added
pub spent_all : (job : JobValue) (k : ℕ) (spent : SpentValue) → k ≡ length job.layers → HasSpent job (take k (plans_of job)) spent → HasSpent job (plans_of job) spent
spent_all job k spent all h = subst (λ (ls : List LayerPlanValue). HasSpent job ls spent) (take_all job k all) h
