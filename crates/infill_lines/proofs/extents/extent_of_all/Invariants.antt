use Rattle.std.proofs.Common.{◌≡◌, drop, None}
use Rattle.infill_lines.specs.Fill.{extent_of_all}
use Rattle.infill_lines.specs.Inner.Places.{IsExtent}
use Rattle.infill_lines.proofs.extents.extent_of_all.Given as goal

abbrev pub invariant-loop-l : goal.invariant-loop-l
invariant-loop-l l = record {
  small : IsExtent l.extent;
  so_far : extent_of_all l.angle l.extent (drop l.l-index l.l-items) ≡ extent_of_all l.angle None l.fn.region;
}
