use Rattle.std.proofs.Common.{◌≡◌, ◌+◌, ◌*◌, ◌++◌, drop, unsigned_abs}
use Rattle.slice_base.specs.Boxes.{Box, grown}
use Rattle.slice_base.specs.Regions.{RegionIn}
use Rattle.offset_core.specs.Corners.{moved_loops_of}
use Rattle.offset_core.proofs.loops.moved_loops.Given as goal

abbrev pub invariant-loop-l : goal.invariant-loop-l
invariant-loop-l l = record {
  so_far : l.moved ++ moved_loops_of l.d.by (drop l.l-index l.l-items) ≡ moved_loops_of l.d.by l.region;
  within : (box : Box) → RegionIn box l.region → RegionIn (grown (3 * unsigned_abs l.d.by + 3) box) l.moved;
}
