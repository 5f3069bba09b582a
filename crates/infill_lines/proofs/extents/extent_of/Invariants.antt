use Rattle.std.proofs.Common.{◌≡◌, drop}
use Rattle.infill_lines.specs.Fill.{extent_of}
use Rattle.infill_lines.specs.Inner.Places.{IsExtent}
use Rattle.infill_lines.proofs.extents.extent_of.Given as goal

abbrev pub invariant-loop-p : goal.invariant-loop-p
invariant-loop-p l = record {
  small : IsExtent l.found;
  so_far : extent_of l.angle l.found (drop l.p-index l.points) ≡ extent_of l.angle l.fn.extent l.points;
}
