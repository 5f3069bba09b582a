-- The offset of a region.
use Rattle.std.specs.Prelude.{ℕ, ℤ, pos, cond, List, [], Result}
use Rattle.std.specs.Ordering.{int_eq}
use Rattle.slice_base.specs.declared.points.Pt.{Pt}
use Rattle.clip_core.specs.declared.keeping.Operation.TheVariants.{Positive}
use Rattle.clip_core.specs.Clip.{clipped_of}
use Rattle.offset_core.specs.Corners.{moved_loops_of}

-- where the loops of a region, their edges moved by d, wind round more than 0 times; or the length of the list of
-- edges that was too long
unfoldable pub offset_of : ℤ → List (List Pt) → Result (List (List Pt)) ℕ
offset_of d region = clipped_of Positive (cond (int_eq d (pos 0)) region (moved_loops_of d region)) []
