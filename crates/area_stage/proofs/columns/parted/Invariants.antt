use Rattle.std.proofs.Common.{◌≡◌, ◌++◌, map, length}
use Rattle.std.specs.Vec.Iter.{into_iter_items}
use Rattle.area_stage.specs.Jobs.{loops_of}
use Rattle.area_stage.specs.Inner.Columns.{lengthened}
use Rattle.area_stage.proofs.columns.parted.Given as goal

abbrev pub invariant-loop-column : goal.invariant-loop-column
invariant-loop-column l = record {
  columns : l.longer ++ lengthened (into_iter_items l.column-iterator) (into_iter_items l.sets) ≡ lengthened l.fn.columns l.fn.sets;
  walls : l.walls ++ map loops_of (into_iter_items l.sets) ≡ map loops_of l.fn.sets;
  as_many : length (into_iter_items l.sets) ≡ length (into_iter_items l.column-iterator);
}
