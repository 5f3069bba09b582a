use Rattle.std.proofs.Common.{◌≡◌, ◌++◌, map, length}
use Rattle.std.specs.List.{All}
use Rattle.std.specs.Vec.Iter.{into_iter_items}
use Rattle.area_stage.specs.Jobs.{loops_of}
use Rattle.area_stage.specs.Inner.Columns.{lengthened_by, no_columns}
use Rattle.area_stage.proofs.columns.all_parted.Given as goal

abbrev pub invariant-loop-sets : goal.invariant-loop-sets
invariant-loop-sets l = record {
  columns : lengthened_by l.columns (into_iter_items l.sets-iterator) ≡ lengthened_by (no_columns l.count) l.fn.layers;
  walls : l.walls ++ map (map loops_of) (into_iter_items l.sets-iterator) ≡ map (map loops_of) l.fn.layers;
  long : length l.columns ≡ l.count;
  as_many : All (λ sets. length sets ≡ l.count) (into_iter_items l.sets-iterator);
}
