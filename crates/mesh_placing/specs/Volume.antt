-- The volume of the machine, and what lies outside it.
use Rattle.std.specs.Prelude.{ℕ, ℤ, pos, ◌-ℤ◌, int_le, Bool, not, ◌&&◌, cond, List, Option}
use Rattle.std.specs.List.{position}
use Rattle.slice_base.specs.declared.points.Pt3.{Pt3}
use Rattle.slice_base.specs.declared.points.Tri.{Tri}
use Rattle.slice_base.specs.Boxes.{Box}
use Rattle.settings_core.specs.Values.{SettingsValue as Settings}
use Rattle.mesh_placing.specs.declared.placing.Excess.{Excess}
use Rattle.mesh_placing.specs.declared.placing.Extent.{Extent}
use Rattle.mesh_placing.specs.declared.placing.Side.{Side}
use Rattle.mesh_placing.specs.declared.placing.Side.TheVariants as side

-- the bed: from the origin to the size of the volume along x and y
abbrev pub bed_of : Settings → Box
bed_of s = record { left = pos 0; right = pos s.machine_width; front = pos 0; back = pos s.machine_depth }

-- from 0 to a size, ends included
abbrev pub is_within : ℕ → ℤ → Bool
is_within size v = int_le (pos 0) v && int_le v (pos size)

-- the corner lies in the volume
abbrev pub is_inside : Settings → Pt3 → Bool
is_inside s p = is_within s.machine_width p.x && is_within s.machine_depth p.y && is_within s.machine_height p.z

-- a corner of the triangle lies outside the volume
abbrev pub leaves : Settings → Tri → Bool
leaves s t = not (is_inside s t.a && is_inside s t.b && is_inside s t.c)

-- the number, from 0, of the first triangle with a corner outside the volume
abbrev pub first_outside : Settings → List Tri → Option ℕ
first_outside s ts = position (leaves s) ts

-- how far an extent reaches out of the volume on a side, in µm; below 0 where it ends before
abbrev pub reach : Settings → Extent → Side → ℤ
reach s e side.Left = pos 0 -ℤ e.low.x
reach s e side.Right = e.high.x -ℤ pos s.machine_width
reach s e side.Front = pos 0 -ℤ e.low.y
reach s e side.Back = e.high.y -ℤ pos s.machine_depth
reach s e side.Below = pos 0 -ℤ e.low.z
reach s e side.Above = e.high.z -ℤ pos s.machine_height

-- a side, with how far an extent reaches out there
abbrev pub excess_on : Settings → Extent → Side → Excess
excess_on s e at = record { side = at; by = reach s e at }

-- the further of two; the first of equals
abbrev pub further : Excess → Excess → Excess
further p q = cond (int_le q.by p.by) p q

-- the side on which an extent reaches out furthest, the first of equals in this order, with how far
abbrev pub excess_of : Settings → Extent → Excess
excess_of s e =
    let level =
    further (further (further (excess_on s e side.Left) (excess_on s e side.Right)) (excess_on s e side.Front))
    (excess_on s e side.Back) in
    further (further level (excess_on s e side.Below)) (excess_on s e side.Above)
