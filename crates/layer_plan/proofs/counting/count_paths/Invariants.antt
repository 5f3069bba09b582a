use Rattle.std.proofs.Common.{◌≡◌, ◌+◌, ◌^◌, min, take}
use Rattle.std.specs.List.{sum_by}
use Rattle.plan_types.specs.Plans.{moves_of}
use Rattle.layer_plan.proofs.counting.count_paths.Given as goal

abbrev pub invariant-loop-path : goal.invariant-loop-path
invariant-loop-path l = l.count ≡ min (l.total + sum_by moves_of (take l.path-index l.paths)) (2 ^ 40)
