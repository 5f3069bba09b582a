use Rattle.std.proofs.Common.{◌≡◌, ◌++◌}
use Rattle.std.specs.Vec.Iter.{into_iter_items}
use Rattle.area_stage.specs.Skirt.{without_holes}
use Rattle.area_stage.proofs.skirts.without_holes.Given as goal

abbrev pub invariant-loop-l : goal.invariant-loop-l
invariant-loop-l l = l.outer ++ without_holes (into_iter_items l.l-iterator) ≡ without_holes l.fn.loops
