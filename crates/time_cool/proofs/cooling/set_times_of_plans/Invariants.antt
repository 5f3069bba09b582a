use Rattle.std.proofs.Common.{◌≡◌, ◌*◌, ◌^◌, ◌-◌, ◌≤◌, ◌++◌, length, take, drop, None}
use Rattle.std.specs.List.{All}
use Rattle.plan_types.specs.Jobs.{Names}
use Rattle.plan_types.specs.Plans.{moves_in, time_in}
use Rattle.time_cool.specs.Cooling.{timed_plans}
use Rattle.time_cool.specs.Inner.Standing.{Stands}
use Rattle.time_cool.proofs.cooling.set_times_of_plans.Given as goal

abbrev pub invariant-plans : goal.invariant-plans
invariant-plans l = record {
  within : l.i ≤ length l.plans;
  stands : Stands l.at;
  all : All (Names l.settings) l.plans;
  time : time_in (take l.i l.plans) ≤ moves_in (take l.i l.plans) * 2 ^ 43;
  so_far : take l.i l.plans ++ timed_plans l.settings l.at (drop l.i l.plans) ≡ timed_plans l.settings None l.fn.plans;
}

abbrev pub decreases-plans : goal.decreases-plans
decreases-plans l = length l.plans - l.i
