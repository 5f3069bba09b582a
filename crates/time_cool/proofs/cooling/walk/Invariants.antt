use Rattle.std.proofs.Common.{◌≡◌, ◌*◌, take, drop}
use Rattle.std.specs.List.{sum_by}
use Rattle.plan_types.specs.Plans.{moves_of}
use Rattle.time_cool.specs.Cooling.{plus, spent_on_paths, end_of_paths}
use Rattle.time_cool.specs.Inner.Bounds.{AtMost}
use Rattle.time_cool.specs.Inner.Standing.{Stands}
use Rattle.time_cool.proofs.cooling.walk.Given as goal

abbrev pub invariant-loop-path : goal.invariant-loop-path
invariant-loop-path l = record {
  stands : Stands l.end;
  small : AtMost (sum_by moves_of (take l.path-index l.paths) * 5656855000000) l.spent;
  so_far : plus l.spent (spent_on_paths l.e l.end (drop l.path-index l.paths)) ≡ spent_on_paths l.e l.fn.from l.paths;
  end : end_of_paths l.end (drop l.path-index l.paths) ≡ end_of_paths l.fn.from l.paths;
}
