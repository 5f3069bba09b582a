use Rattle.std.proofs.Common.{◌≡◌, ◌++◌}
use Rattle.std.specs.Vec.Iter.{into_iter_items}
use Rattle.area_stage.specs.Jobs.{all_areas_of}
use Rattle.area_stage.proofs.layers.all_areas.Given as goal

abbrev pub invariant-loop-sets : goal.invariant-loop-sets
invariant-loop-sets l = l.areas ++ all_areas_of (into_iter_items l.sets-iterator) (into_iter_items l.splits) ≡ all_areas_of l.fn.walls l.fn.splits
