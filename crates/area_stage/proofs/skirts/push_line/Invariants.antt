use Rattle.std.proofs.Common.{◌≡◌, ◌++◌}
use Rattle.std.specs.Vec.Iter.{into_iter_items}
use Rattle.area_stage.specs.Inner.Held.{AreLines}
use Rattle.area_stage.proofs.skirts.push_line.Given as goal

abbrev pub invariant-loop-l : goal.invariant-loop-l
invariant-loop-l l = record {
  so_far : l.loops ++ into_iter_items l.l-iterator ≡ l.fn.loops ++ l.fn.line;
  each : AreLines l.loops;
  rest : AreLines (into_iter_items l.l-iterator);
}
