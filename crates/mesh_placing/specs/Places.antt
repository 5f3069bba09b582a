-- Where a mesh stands: how far it is moved.
use Rattle.std.specs.Prelude.{ℕ, ℤ, pos, negsuc, ◌/◌, ◌+ℤ◌, ◌-ℤ◌, cond, List, map, Option, Some, None}
use Rattle.std.specs.List.{slice_get}
use Rattle.slice_base.specs.declared.points.Pt3.{Pt3}
use Rattle.slice_base.specs.declared.points.Tri.{Tri}
use Rattle.settings_core.specs.Values.{SettingsValue as Settings, MeshSettingsValue as MeshSettings}
use Rattle.mesh_placing.specs.declared.placing.Extent.{Extent}
use Rattle.mesh_placing.specs.declared.placing.Shift.{Shift}
use Rattle.mesh_placing.specs.Extents.{extent_of}

-- half of a number, rounded down
abbrev pub half : ℤ → ℤ
half (pos n) = pos (n / 2)
half (negsuc n) = negsuc (n / 2)

-- the middle of two numbers, rounded down
abbrev pub middle_of : ℤ → ℤ → ℤ
middle_of low high = half (low +ℤ high)

-- from the middle of two numbers, rounded down, to the middle of a size
abbrev pub to_middle : ℕ → ℤ → ℤ → ℤ
to_middle size low high = pos (size / 2) -ℤ middle_of low high

-- the shift into the middle of the bed and down onto it
abbrev pub centring : Settings → Extent → Shift
centring s e = record {
  x = to_middle s.machine_width e.low.x e.high.x;
  y = to_middle s.machine_depth e.low.y e.high.y;
  z = pos 0 -ℤ e.low.z;
}

-- no shift
abbrev pub no_shift : Shift
no_shift = record { x = pos 0; y = pos 0; z = pos 0 }

-- the shift into the middle of the bed and down onto it where the mesh is to be centred, else none
abbrev pub centred : Settings → MeshSettings → List Tri → Shift
centred s m ts = cond m.center_object (centring s (extent_of ts)) no_shift

-- a shift, and then by the position of a mesh
abbrev pub positioned : MeshSettings → Shift → Shift
positioned m by = record { x = by.x +ℤ m.mesh_position_x; y = by.y +ℤ m.mesh_position_y; z = by.z +ℤ m.mesh_position_z }

-- the shift of a mesh with these settings
abbrev pub shift_of : Settings → MeshSettings → List Tri → Shift
shift_of s m ts = positioned m (centred s m ts)

-- a corner, moved
abbrev pub moved_corner : Shift → Pt3 → Pt3
moved_corner by p = record { x = p.x +ℤ by.x; y = p.y +ℤ by.y; z = p.z +ℤ by.z }

-- a triangle, moved
abbrev pub moved : Shift → Tri → Tri
moved by t = record { a = moved_corner by t.a; b = moved_corner by t.b; c = moved_corner by t.c }

-- the triangles of a mesh with these settings, moved
abbrev pub placed_with : Settings → Option MeshSettings → List Tri → List Tri
placed_with s None ts = ts
placed_with s (Some m) ts = map (moved (shift_of s m ts)) ts

-- the triangles of mesh number n, moved, in their order
abbrev pub placed : Settings → ℕ → List Tri → List Tri
placed s n ts = placed_with s (slice_get s.meshes n) ts
