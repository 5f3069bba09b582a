use Rattle.std.proofs.Common.{◌≡◌, length}
use Rattle.std.specs.List.{All}
use Rattle.std.specs.Vec.Iter.{into_iter_items}
use Rattle.area_stage.specs.Inner.Taking.{IsDone, AreSlots}
use Rattle.area_stage.proofs.taking.put_pile.Given as goal

abbrev pub invariant-loop-done : goal.invariant-loop-done
invariant-loop-done g l = record {
  len : length l.slots.items ≡ length l.initial.slots.items;
  rest : All (IsDone g.F.Fn l.f l.from (length l.slots.items)) (into_iter_items l.done-iterator);
  slots : AreSlots g.F.Fn l.f l.from l.slots.items;
}
