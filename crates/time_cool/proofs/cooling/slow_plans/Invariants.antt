use Rattle.std.proofs.Common.{◌≡◌, ◌-◌, ◌≤◌, ◌++◌, length, take, drop}
use Rattle.std.specs.List.{All}
use Rattle.plan_types.specs.Jobs.{Names}
use Rattle.time_cool.specs.Cooling.{slower_plans}
use Rattle.time_cool.proofs.cooling.slow_plans.Given as goal

abbrev pub invariant-plans : goal.invariant-plans
invariant-plans l = record {
  within : l.i ≤ length l.plans;
  all : All (Names l.settings) l.plans;
  so_far : take l.i l.plans ++ slower_plans l.settings l.spent (drop l.i l.plans) ≡ slower_plans l.settings l.spent l.fn.plans;
}

abbrev pub decreases-plans : goal.decreases-plans
decreases-plans l = length l.plans - l.i
