-- What the extent of corners is: by the corners one after another, and said of all their coordinates.
use Rattle.std.specs.Prelude.{ℤ, pos, ◌≤ℤ◌, List, [], ◌∷◌, map, fold}
use Rattle.std.specs.Int.{int_min, int_max}
use Rattle.std.specs.List.{All, Contains}
use Rattle.slice_base.specs.declared.points.Pt3.{Pt3}
use Rattle.slice_base.specs.declared.points.Tri.{Tri}
use Rattle.mesh_placing.specs.declared.placing.Extent.{Extent}

-- all corners
abbrev pub corners_of : List Tri → List Pt3
corners_of [] = []
corners_of (t ∷ ts) = t.a ∷ t.b ∷ t.c ∷ corners_of ts

-- the lesser coordinates of two corners
abbrev pub lower : Pt3 → Pt3 → Pt3
lower p q = record { x = int_min p.x q.x; y = int_min p.y q.y; z = int_min p.z q.z }

-- the greater coordinates of two corners
abbrev pub upper : Pt3 → Pt3 → Pt3
upper p q = record { x = int_max p.x q.x; y = int_max p.y q.y; z = int_max p.z q.z }

-- the least box that holds a box and a corner
abbrev pub stretched : Extent → Pt3 → Extent
stretched e p = record { low = lower e.low p; high = upper e.high p }

-- the least and the greatest coordinates of all corners; 0 where there is none
abbrev pub extent_of : List Tri → Extent
extent_of [] = record {
  low = record { x = pos 0; y = pos 0; z = pos 0 };
  high = record { x = pos 0; y = pos 0; z = pos 0 };
}
extent_of (t ∷ ts) = fold stretched (record { low = t.a; high = t.a }) (corners_of (t ∷ ts))

-- z is the least of some numbers: under all, and one of them
pub record IsLeast (zs : List ℤ) (z : ℤ) : Type 0 where
  pub under_all : All (λ y. z ≤ℤ y) zs
  pub reached : Contains zs z

-- z is the greatest of some numbers: over all, and one of them
pub record IsGreatest (zs : List ℤ) (z : ℤ) : Type 0 where
  pub over_all : All (λ y. y ≤ℤ z) zs
  pub reached : Contains zs z

-- in each direction the extent goes from the least coordinate of a corner to the greatest
pub record IsExtent (corners : List Pt3) (e : Extent) : Type 0 where
  pub left : IsLeast (map (λ p. p.x) corners) e.low.x
  pub right : IsGreatest (map (λ p. p.x) corners) e.high.x
  pub front : IsLeast (map (λ p. p.y) corners) e.low.y
  pub back : IsGreatest (map (λ p. p.y) corners) e.high.y
  pub bottom : IsLeast (map (λ p. p.z) corners) e.low.z
  pub top : IsGreatest (map (λ p. p.z) corners) e.high.z
