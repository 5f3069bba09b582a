use Rattle.std.proofs.Common.{◌≡◌, ◌*◌, take, drop, None}
use Rattle.std.specs.List.{sum_by}
use Rattle.plan_types.specs.Plans.{moves_of_plan}
use Rattle.time_cool.specs.Cooling.{plus, spent_on}
use Rattle.time_cool.specs.Inner.Bounds.{AtMost}
use Rattle.time_cool.specs.Inner.Standing.{Stands}
use Rattle.time_cool.proofs.cooling.spent_on.Given as goal

abbrev pub invariant-loop-plan : goal.invariant-loop-plan
invariant-loop-plan l = record {
  stands : Stands l.end;
  small : AtMost (sum_by moves_of_plan (take l.plan-index l.plans) * 5656855000000) l.spent;
  so_far : plus l.spent (spent_on l.settings l.end (drop l.plan-index l.plans)) ≡ spent_on l.settings None l.plans;
}
