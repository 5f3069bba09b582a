-- On which sides of an edge the ends of another one lie.
use Rattle.std.specs.Prelude.{◌≡◌, ◌≤◌, ◌^◌, Bool, ◌||◌}
use Rattle.std.specs.Int.RustNames.{unsigned_abs}
use Rattle.slice_base.specs.declared.points.Pt.{Pt}
use Rattle.slice_base.specs.declared.points.Edge.{Edge}
use Rattle.slice_base.specs.Plane.{same_point, cross_of}
use Rattle.edge_cut.specs.declared.sides.Sides.{Sides}

-- twice the areas of the triangles from e to each end of f, above 0 at the left of e
pub record AreSides (e f : Edge) (s : Sides) : Type 0 where
  pub from_is : s.from ≡ cross_of e.from e.to e.from f.from
  pub to_is : s.to ≡ cross_of e.from e.to e.from f.to
  pub from_small : unsigned_abs s.from ≤ 2 ^ 65
  pub to_small : unsigned_abs s.to ≤ 2 ^ 65

-- p is one of the two ends of e
abbrev pub is_end : Edge → Pt → Bool
is_end e p = same_point p e.from || same_point p e.to

-- an end of f is one of e
abbrev pub share_end : Edge → Edge → Bool
share_end e f = is_end e f.from || is_end e f.to
