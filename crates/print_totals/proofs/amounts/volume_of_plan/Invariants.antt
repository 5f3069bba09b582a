use Rattle.std.proofs.Common.{◌≡◌, ◌+◌, drop}
use Rattle.std.specs.List.{sum_by}
use Rattle.plan_types.specs.Plans.{volume_of, volume_of_plan}
use Rattle.print_totals.proofs.amounts.volume_of_plan.Given as goal

abbrev pub invariant-loop-path : goal.invariant-loop-path
invariant-loop-path l = l.volume + sum_by volume_of (drop l.path-index l.path-items) ≡ volume_of_plan l.plan
