use Rattle.std.proofs.Common.{◌≡◌, ◌+◌, length}
use Rattle.std.specs.Vec.Iter.{into_iter_items}
use Rattle.area_stage.specs.Inner.Faults.{FromNumber}
use Rattle.area_stage.specs.Inner.Walls.{AreJobWalls, GivesLayerWalls}
use Rattle.area_stage.proofs.phases.with_layers.Given as goal

abbrev pub invariant-loop-item : goal.invariant-loop-item
invariant-loop-item g l = record {
  rest : FromNumber (GivesLayerWalls l.settings l.meshes) (length l.walls.sets) (into_iter_items l.item-iterator);
  total : length l.walls.sets + length (into_iter_items l.item-iterator) ≡ l.from + l.count;
  so_far : AreJobWalls l.settings l.meshes (length l.walls.sets) l.walls;
}
