-- The signed area of a loop.
use Rattle.std.specs.Prelude.{ℤ, pos, false, ◌+ℤ◌, ◌-ℤ◌, ◌*ℤ◌, List, [], ◌∷◌}
use Rattle.slice_base.specs.declared.points.Pt.{Pt}
use Rattle.slice_base.specs.Shapes.{Points}
use Rattle.edge_cut.specs.declared.passes.Marked.{Marked}
use Rattle.clip_core.specs.Outlines.{loop_edges}

-- the cross product of p and q: twice the area of the triangle from the origin to p and q, above 0 where it turns left
abbrev pub wedge : Pt → Pt → ℤ
wedge p q = (p.x *ℤ q.y) -ℤ (p.y *ℤ q.x)

-- the sum of the cross products of the two ends of each edge
abbrev pub sum_of_wedges : List Marked → ℤ
sum_of_wedges [] = pos 0
sum_of_wedges (m ∷ ms) = wedge m.edge.from m.edge.to +ℤ sum_of_wedges ms

-- twice the area at the left of a loop: that sum over its edges, each from a point to the next, round to the first
abbrev pub area_of : Points → ℤ
area_of points = sum_of_wedges (loop_edges false points)
