use Rattle.std.proofs.Common.{◌≡◌, ◌+◌, ◌<◌, ℕ, Option, length}
use Rattle.std.specs.Prelude.{slice_index_or}
use Rattle.std.specs.Vec.Iter.{into_iter_items}
use Rattle.area_stage.specs.Inner.Taking.{IsSlot, GivesFrom}
use Rattle.area_stage.proofs.taking.results_of.Given as goal

abbrev pub invariant-loop-slot : goal.invariant-loop-slot
invariant-loop-slot g l = record {
  total : length l.results.items + length (into_iter_items l.slot-iterator) ≡ length l.fn.slots.items;
  rest : (i : ℕ) (d : Option g.row.X.Denot) → i < length (into_iter_items l.slot-iterator)
      → IsSlot g.F.Fn l.f l.from (length l.results.items + i) (slice_index_or (into_iter_items l.slot-iterator) i d);
  so_far : GivesFrom g.F.Fn l.f l.from l.results.items;
}
