use Rattle.std.proofs.Common.{◌≡◌, ◌+◌, Ok, length}
use Rattle.std.specs.Vec.Iter.{into_iter_items}
use Rattle.slice_base.specs.Outcomes.{up_to}
use Rattle.area_stage.specs.Fills.{layer_splits_of}
use Rattle.area_stage.specs.Inner.Faults.{FromNumber, GivesNumber}
use Rattle.area_stage.proofs.phases.with_splits.Given as goal

abbrev pub invariant-loop-item : goal.invariant-loop-item
invariant-loop-item g l = record {
  rest : FromNumber (GivesNumber (layer_splits_of l.settings l.columns)) (length l.splits) (into_iter_items l.item-iterator);
  total : length l.splits + length (into_iter_items l.item-iterator) ≡ l.from + l.count;
  so_far : up_to (layer_splits_of l.settings l.columns) (length l.splits) ≡ Ok l.splits;
}
