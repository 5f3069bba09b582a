use Rattle.std.proofs.Common.{◌≡◌, None, length}
use Rattle.std.specs.List.{All}
use Rattle.area_stage.proofs.taking.no_slots.Given as goal

abbrev pub invariant-loop : goal.invariant-loop
invariant-loop g l = (length l.slots.items ≡ l.counter) × All (λ s. s ≡ None) l.slots.items
