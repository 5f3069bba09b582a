use Rattle.std.proofs.Common.{◌≡◌, ◌++◌}
use Rattle.std.specs.Vec.Iter.{into_iter_items}
use Rattle.area_stage.specs.Skirt.{joined}
use Rattle.area_stage.specs.Inner.Held.{AreLines}
use Rattle.area_stage.proofs.skirts.joined.Given as goal

abbrev pub invariant-loop-line : goal.invariant-loop-line
invariant-loop-line l = record {
  so_far : l.loops ++ joined (into_iter_items l.line-iterator) ≡ joined l.fn.lines;
  each : AreLines l.loops;
}
