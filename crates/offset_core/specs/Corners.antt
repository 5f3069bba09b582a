-- The corners of loops whose edges are moved.
use Rattle.std.specs.Prelude.{ℤ, pos, Bool, cond, int_lt, int_le, ◌+ℤ◌, ◌*ℤ◌, List, [], ◌∷◌, ◌++◌, length, slice_index_or}
use Rattle.std.specs.Int.RustNames.{unsigned_abs}
use Rattle.slice_base.specs.declared.points.Pt.{Pt}
use Rattle.slice_base.specs.Plane.{same_point, cross_of}
use Rattle.slice_base.specs.Whole.{rounded}
use Rattle.offset_core.specs.Normals.{normal_of}

-- the point, moved by a vector
abbrev pub shifted_of : Pt → Pt → Pt
shifted_of p v = record { x = p.x +ℤ v.x; y = p.y +ℤ v.y }

-- the square of the distance, and the dot product of two normals
abbrev pub reach_of : ℤ → Pt → Pt → ℤ
reach_of d m n = d *ℤ d +ℤ (m.x *ℤ n.x +ℤ m.y *ℤ n.y)

-- how far the mitre point is from the corner along one axis, by the parts of the normals along it
abbrev pub mitre_of : ℤ → ℤ → ℤ → ℤ → ℤ
mitre_of d reach m n = rounded ((m +ℤ n) *ℤ (d *ℤ d)) (unsigned_abs reach)

-- the mitre point of the corner p: where the two moved edges meet
abbrev pub mitred_of : ℤ → Pt → Pt → Pt → Pt
mitred_of d p m n =
    shifted_of p (record { x = mitre_of d (reach_of d m n) m.x n.x; y = mitre_of d (reach_of d m n) m.y n.y })

-- the mitre point is near: a corner of 60 degrees is the sharpest that has one
abbrev pub is_near : ℤ → ℤ → Bool
is_near d reach = int_le (d *ℤ d) (reach +ℤ reach)

-- from a by p to q the way turns to the side to which the edges are moved, so that they would cross
abbrev pub is_inner_corner : ℤ → Pt → Pt → Pt → Bool
is_inner_corner d a p q =
    cond (int_lt (pos 0) d) (int_lt (cross_of a p p q) (pos 0)) (int_lt (pos 0) (cross_of a p p q))

-- what the corner p becomes, by the normals of its edges: an inner corner the ends of both moved edges with p
-- between them, another its mitre point where that is near, else the ends of both moved edges
abbrev pub corner_by : Bool → ℤ → Pt → Pt → Pt → List Pt
corner_by is_inner d p m n =
    cond is_inner (shifted_of p m ∷ p ∷ shifted_of p n ∷ [])
    (cond (is_near d (reach_of d m n)) (mitred_of d p m n ∷ []) (shifted_of p m ∷ shifted_of p n ∷ []))

-- what the corner p between a and q becomes
abbrev pub corner_of : ℤ → Pt → Pt → Pt → List Pt
corner_of d a p q = corner_by (is_inner_corner d a p q) d p (normal_of d a p) (normal_of d p q)

-- what the corners of a loop become from p on, with a before p, round to its first point
abbrev pub corners_from : ℤ → Pt → Pt → Pt → List Pt → List Pt
corners_from d first a p [] = corner_of d a p first
corners_from d first a p (q ∷ qs) = corner_of d a p q ++ corners_from d first p q qs

-- what all corners of a loop become
abbrev pub corners_of : ℤ → List Pt → List Pt
corners_of d [] = []
corners_of d (p ∷ ps) = corners_from d p (slice_index_or (p ∷ ps) (length ps) p) p ps

-- p, unless it is a
abbrev pub unless_same : Pt → Pt → List Pt
unless_same a p = cond (same_point a p) [] (p ∷ [])

-- of the points after a, those that aren't the point before them
abbrev pub apart_from : Pt → List Pt → List Pt
apart_from a [] = []
apart_from a (p ∷ ps) = unless_same a p ++ apart_from p ps

-- the points of a loop that aren't the point before them, all at once; before the first stands the last
abbrev pub apart_of : List Pt → List Pt
apart_of [] = []
apart_of (p ∷ ps) = apart_from (slice_index_or (p ∷ ps) (length ps) p) (p ∷ ps)

-- the loop, its edges moved: what its corners become, points that are the one before them left out first
abbrev pub moved_loop_of : ℤ → List Pt → List Pt
moved_loop_of d points = corners_of d (apart_of points)

-- all loops, their edges moved
abbrev pub moved_loops_of : ℤ → List (List Pt) → List (List Pt)
moved_loops_of d [] = []
moved_loops_of d (l ∷ ls) = moved_loop_of d l ∷ moved_loops_of d ls
