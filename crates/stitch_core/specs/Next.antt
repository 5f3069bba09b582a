-- Which gap is closed next.
use Rattle.std.specs.Prelude.{◌≡◌, ◌<◌, ◌≤◌, [], length, slice_index_or}
use Rattle.slice_base.specs.Shapes.{Loops}
use Rattle.slice_base.specs.Plane.{square_of}
use Rattle.stitch_core.specs.declared.gaps.Gap.{Gap}
use Rattle.stitch_core.specs.Gaps.{start_of, end_of, reach}

-- g is a gap within reach, from the end of one chain to the start of another, by their places
pub record IsGap (chains : Loops) (g : Gap) : Type 0 where
  pub ends : 0 < length (slice_index_or chains g.from [])
  pub starts : 0 < length (slice_index_or chains g.to [])
  pub wide : g.squared ≡ square_of (end_of (slice_index_or chains g.from [])) (start_of (slice_index_or chains g.to []))
  pub within : g.squared ≤ reach

-- g is closed no later than h: by width, then by the chain that ends, then by the one that starts
pub record IsNotAfter (g h : Gap) : Type 0 where
  pub width : g.squared ≤ h.squared
  pub ends : g.squared ≡ h.squared → g.from ≤ h.from
  pub starts : g.squared ≡ h.squared → g.from ≡ h.from → g.to ≤ h.to

-- g is the gap to close next
pub record IsNext (chains : Loops) (g : Gap) : Type 0 where
  pub is_gap : IsGap chains g
  pub first : (h : Gap) → IsGap chains h → IsNotAfter g h
