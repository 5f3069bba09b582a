use Rattle.std.proofs.Common.{◌≡◌, ◌+◌, ◌*◌, ◌++◌, drop, unsigned_abs}
use Rattle.std.specs.List.{All}
use Rattle.slice_base.specs.Plane.{InSquare}
use Rattle.slice_base.specs.Boxes.{Box, IsIn, grown}
use Rattle.offset_core.specs.Corners.{corners_from, corners_of}
use Rattle.offset_core.proofs.loops.corners.Given as goal

abbrev pub invariant-loop-q : goal.invariant-loop-q
invariant-loop-q l = record {
  a_in : InSquare 1700000 l.a;
  p_in : InSquare 1700000 l.p;
  so_far : l.corners ++ corners_from l.d.by l.first l.a l.p (drop l.q-index l.q-items) ≡ corners_of l.d.by l.points;
  p_boxed : (box : Box) → All (IsIn box) l.points → IsIn box l.p;
  within : (box : Box) → All (IsIn box) l.points → All (IsIn (grown (3 * unsigned_abs l.d.by + 3) box)) l.corners;
}
