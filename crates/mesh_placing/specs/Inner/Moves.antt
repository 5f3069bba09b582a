-- Moves whose numbers stay small: what the parts of a move ask of each other.
use Rattle.std.specs.Prelude.{ℕ, pos, ◌<◌, ◌+ℤ◌, ◌≤ℤ◌}
use Rattle.std.specs.Int.RustNames.{unsigned_abs}
use Rattle.slice_base.specs.declared.points.Pt3.{Pt3}
use Rattle.slice_base.specs.declared.points.Tri.{Tri}
use Rattle.mesh_placing.specs.declared.placing.Extent.{Extent}
use Rattle.mesh_placing.specs.declared.placing.Shift.{Shift}
use Rattle.mesh_placing.specs.Places.{moved_corner}

-- the shift is shorter than n in each direction
pub record IsShorter (by : Shift) (n : ℕ) : Type 0 where
  pub in_x : unsigned_abs by.x < n
  pub in_y : unsigned_abs by.y < n
  pub in_z : unsigned_abs by.z < n

-- the corner lies in the greatest volume that a machine can have, once it is moved
pub record IsMovedInside (by : Shift) (p : Pt3) : Type 0 where
  pub x_from : pos 0 ≤ℤ (p.x +ℤ by.x)
  pub x_to : (p.x +ℤ by.x) ≤ℤ pos 1000000
  pub y_from : pos 0 ≤ℤ (p.y +ℤ by.y)
  pub y_to : (p.y +ℤ by.y) ≤ℤ pos 1000000
  pub z_from : pos 0 ≤ℤ (p.z +ℤ by.z)
  pub z_to : (p.z +ℤ by.z) ≤ℤ pos 1000000

-- and so do the corners of the triangle
pub record AreMovedInside (by : Shift) (t : Tri) : Type 0 where
  pub a : IsMovedInside by t.a
  pub b : IsMovedInside by t.b
  pub c : IsMovedInside by t.c

-- an extent, moved
abbrev pub shifted : Shift → Extent → Extent
shifted by e = record { low = moved_corner by e.low; high = moved_corner by e.high }
