use Rattle.std.proofs.Common.{◌≡◌, ◌+◌, drop}
use Rattle.plan_types.specs.Plans.{time_in}
use Rattle.print_totals.proofs.amounts.time_in.Given as goal

abbrev pub invariant-loop-plan : goal.invariant-loop-plan
invariant-loop-plan l = l.time + time_in (drop l.plan-index l.plans) ≡ time_in l.plans
