use Rattle.std.proofs.Common.{◌≡◌, ◌++◌}
use Rattle.std.specs.Vec.Iter.{into_iter_items}
use Rattle.area_stage.specs.Jobs.{areas_on}
use Rattle.area_stage.proofs.layers.areas_on.Given as goal

abbrev pub invariant-loop-set : goal.invariant-loop-set
invariant-loop-set l = l.areas ++ areas_on (into_iter_items l.set-iterator) (into_iter_items l.splits) ≡ areas_on l.fn.walls l.fn.splits
