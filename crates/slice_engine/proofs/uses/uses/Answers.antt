use Rattle.std.proofs.Common.{ap, subst, ◌∙◌, ◌<◌, ◌≤◌, ℕ, length}
use Rattle.plan_types.specs.Jobs.{JobValue}
use Rattle.plan_types.specs.Plans.{LayerPlanValue}
use Rattle.slice_engine.specs.Done.{with_plans, uses_of}
use Rattle.slice_engine.proofs.UseCounts.{layer_counted, all_counted}
use Rattle.slice_engine.proofs.uses.uses.Goals as goal

pub layers-preserved : goal.layers-preserved
layers-preserved c =
    let job = c.args.job.now in
    let count = c.len-layers.ensures ∙ ap (λ (j : JobValue). length j.layers) c.job.view_is in
    layer_counted job c.layers.layer c.layers.so_far c.with_plans-so_far.result (uses_of job) c.in_ok-plan.plan
    (subst (λ (n : ℕ). c.layers.layer < n) count c.layers-test.true) c.in_ok-plan.ensures.plan
    (c.with_plans-so_far.ensures ∙ ap (with_plans c.layers.so_far) (c.items.ensures ∙ ap (λ (p : LayerPlanValue). p.plans) c.plan.view_is)) c.layers.invariant

pub returns : goal.returns
returns c =
    let job = c.args.job.now in
    let count = c.len-layers.ensures ∙ ap (λ (j : JobValue). length j.layers) c.job.view_is in
    all_counted job c.layers.layer c.layers.so_far (uses_of job) (subst (λ (n : ℕ). n ≤ c.layers.layer) count c.layers-test.false) c.layers.invariant
