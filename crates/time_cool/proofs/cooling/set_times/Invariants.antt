use Rattle.std.proofs.Common.{◌≡◌, ◌*◌, ◌^◌, ◌-◌, ◌≤◌, ◌++◌, length, take, drop}
use Rattle.std.specs.List.{sum_by}
use Rattle.plan_types.specs.Plans.{moves_of}
use Rattle.time_cool.specs.Cooling.{timed_paths, end_of_paths}
use Rattle.time_cool.specs.Inner.Standing.{Stands}
use Rattle.time_cool.proofs.cooling.set_times.Given as goal

abbrev pub invariant-paths : goal.invariant-paths
invariant-paths l = record {
  within : l.i ≤ length l.paths;
  stands : Stands l.at;
  time : sum_by (λ p. p.time) (take l.i l.paths) ≤ sum_by moves_of (take l.i l.paths) * 2 ^ 43;
  so_far : take l.i l.paths ++ timed_paths l.e l.at (drop l.i l.paths) ≡ timed_paths l.e l.fn.from l.fn.paths;
  end : end_of_paths l.at (drop l.i l.paths) ≡ end_of_paths l.fn.from l.fn.paths;
}

abbrev pub decreases-paths : goal.decreases-paths
decreases-paths l = length l.paths - l.i
