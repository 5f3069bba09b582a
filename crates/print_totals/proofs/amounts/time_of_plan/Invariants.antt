use Rattle.std.proofs.Common.{◌≡◌, ◌+◌, drop}
use Rattle.std.specs.List.{sum_by}
use Rattle.plan_types.specs.Paths.{PathValue}
use Rattle.plan_types.specs.Plans.{time_of_plan}
use Rattle.print_totals.proofs.amounts.time_of_plan.Given as goal

abbrev pub invariant-loop-path : goal.invariant-loop-path
invariant-loop-path l = l.time + sum_by (λ (p : PathValue). p.time) (drop l.path-index l.path-items) ≡ time_of_plan l.plan
