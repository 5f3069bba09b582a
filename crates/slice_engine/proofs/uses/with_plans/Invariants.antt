use Rattle.std.proofs.Common.{◌≡◌, drop}
use Rattle.slice_engine.specs.Done.{with_plans}
use Rattle.slice_engine.proofs.uses.with_plans.Given as goal

abbrev pub invariant-plans : goal.invariant-plans
invariant-plans l = with_plans l.so_far (drop l.plan-index l.plans) ≡ with_plans l.fn.uses l.plans
