use Rattle.std.proofs.Common.{◌≡◌, length, IfOk}
use Rattle.std.specs.List.{All}
use Rattle.std.specs.Vec.Iter.{into_iter_items}
use Rattle.area_stage.specs.Inner.Taking.{IsDone, AreSlots}
use Rattle.area_stage.proofs.taking.put_piles.Given as goal

abbrev pub invariant-loop-pile : goal.invariant-loop-pile
invariant-loop-pile g l = record {
  len : length l.slots.items ≡ length l.initial.slots.items;
  rest : All (λ pile. IfOk pile (λ p. All (IsDone g.F.Fn l.f l.from (length l.slots.items)) p.items)) (into_iter_items l.pile-iterator);
  slots : AreSlots g.F.Fn l.f l.from l.slots.items;
}
