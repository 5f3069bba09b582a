use Rattle.std.proofs.Common.{◌≡◌, ◌+◌, ◌-◌, ◌≤◌, ◌++◌, length, take, drop}
use Rattle.std.specs.List.{sum_by}
use Rattle.plan_types.specs.Paths.{PathValue}
use Rattle.plan_types.specs.Plans.{moves_of}
use Rattle.plan_types.specs.Leads.{timed_paths}
use Rattle.plan_store.proofs.leading.time_paths.Given as goal

abbrev pub invariant-paths : goal.invariant-paths
invariant-paths l = record {
  within : l.i ≤ length l.paths;
  so_far : take l.i l.paths ++ timed_paths l.first l.now (drop l.i l.paths) ≡ timed_paths l.fn.is_first l.fn.time l.fn.paths;
  time : l.now + sum_by (λ (p : PathValue). p.time) (drop l.i l.paths) ≡ l.fn.time + sum_by (λ (p : PathValue). p.time) l.fn.paths;
  few : l.i + sum_by moves_of (drop l.i l.paths) ≤ sum_by moves_of l.fn.paths;
  same : length l.paths ≡ length l.fn.paths;
}

abbrev pub decreases-paths : goal.decreases-paths
decreases-paths l = length l.paths - l.i
