use Rattle.std.proofs.Common.{◌≡◌, ◌+◌, ◌++◌, length}
use Rattle.std.specs.List.{All}
use Rattle.std.specs.Vec.Iter.{into_iter_items}
use Rattle.plan_types.specs.Jobs.{IsLayer}
use Rattle.area_stage.specs.Jobs.{layers_from}
use Rattle.area_stage.proofs.layers.layers.Given as goal

abbrev pub invariant-loop-a : goal.invariant-loop-a
invariant-loop-a l = record {
  so_far : l.layers ++ layers_from l.settings l.k l.before (into_iter_items l.a-iterator) ≡ layers_from l.settings 0 l.first l.fn.areas;
  counted : length l.layers ≡ l.k;
  rest : l.k + length (into_iter_items l.a-iterator) ≡ length l.fn.areas;
  as_many : All (λ a. length a ≡ length l.settings.meshes) (into_iter_items l.a-iterator);
  sound : All (IsLayer l.settings) l.layers;
}
