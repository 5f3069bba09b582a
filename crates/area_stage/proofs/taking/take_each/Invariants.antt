use Rattle.std.specs.List.{All}
use Rattle.area_stage.specs.Inner.Taking.{IsDone}
use Rattle.area_stage.proofs.taking.take_each.Given as goal

abbrev pub invariant-loop : goal.invariant-loop
invariant-loop g l = All (IsDone g.F.Fn l.f l.from l.count) l.pile.items
