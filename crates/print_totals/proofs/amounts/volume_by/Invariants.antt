use Rattle.std.proofs.Common.{◌≡◌, ◌+◌, ◌≤◌, drop}
use Rattle.plan_types.specs.Plans.{volume_in}
use Rattle.print_totals.specs.Totals.{volume_by}
use Rattle.print_totals.proofs.amounts.volume_by.Given as goal

abbrev pub invariant-loop-plan : goal.invariant-loop-plan
invariant-loop-plan l = record {
  so_far : l.volume + volume_by l.e (drop l.plan-index l.plans) ≡ volume_by l.e l.plans;
  small : l.volume + volume_in (drop l.plan-index l.plans) ≤ volume_in l.plans;
}
