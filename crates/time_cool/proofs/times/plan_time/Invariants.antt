use Rattle.std.proofs.Common.{◌≡◌, ◌+◌, ◌*◌, ◌^◌, ◌≤◌, drop, Some}
use Rattle.time_cool.specs.Times.{paths_time_of}
use Rattle.time_cool.specs.Inner.Standing.{Stands}
use Rattle.time_cool.proofs.times.plan_time.Given as goal

abbrev pub invariant-loop-path : goal.invariant-loop-path
invariant-loop-path l = record {
  stands : Stands l.at;
  small : l.time ≤ l.path-index * 2 ^ 61;
  so_far : l.time + paths_time_of l.e l.at (drop l.path-index l.path-items) ≡ paths_time_of l.e (Some l.fn.from) l.plan.paths;
}
