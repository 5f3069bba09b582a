-- The outline of a mesh at a height.
use Rattle.std.specs.Prelude.{ℕ, zero, suc, ◌+◌, ℤ, pos, List, [], sum_by, Result}
use Rattle.slice_base.specs.declared.points.Tri.{Tri}
use Rattle.slice_base.specs.Shapes.{Loops}
use Rattle.slice_base.specs.Outcomes.{and_then, fold_ok, each_ok}
use Rattle.settings_core.specs.Values.{SettingsValue}
use Rattle.cross_section.specs.Planes.{plane_of}
use Rattle.cross_section.specs.Section.{section_of}
use Rattle.stitch_core.specs.declared.stitches.Stitched.{Stitched}
use Rattle.stitch_core.specs.Stitch.{stitch_of}
use Rattle.clip_core.specs.declared.keeping.Operation.TheVariants.{NonZero, Subtract}
use Rattle.clip_core.specs.Clip.{clipped_of}

-- the section of a mesh at a height, stitched
abbrev pub stitched_of : ℤ → List Tri → Stitched
stitched_of z mesh = stitch_of (section_of mesh z)

-- the cleaned outline of a mesh at a height: where its section winds round
unfoldable pub cleaned_of : ℤ → List Tri → Result Loops ℕ
cleaned_of z mesh = clipped_of NonZero (stitched_of z mesh).loops []

-- a region without others, one after the other
abbrev pub without_of : Loops → List Loops → Result Loops ℕ
without_of region others = fold_ok (clipped_of Subtract) region others

-- the outline of a mesh: its cleaned outline without the cleaned outlines of the meshes before it
unfoldable pub outline_of : ℤ → List (List Tri) → List Tri → Result Loops ℕ
outline_of z before mesh =
    and_then (cleaned_of z mesh) (λ own. and_then (each_ok (cleaned_of z) before) (without_of own))

-- how many chains of a mesh's section stay open at a height
abbrev pub open_at : ℤ → List Tri → ℕ
open_at z mesh = (stitched_of z mesh).open_outlines

-- how many chains of all meshes stay open on a layer
abbrev pub open_on : SettingsValue → List (List Tri) → ℕ → ℕ
open_on s meshes layer = sum_by (open_at (pos (plane_of s layer))) meshes

-- how many chains of all meshes stay open on the layers below number n
abbrev pub open_outlines_of : SettingsValue → List (List Tri) → ℕ → ℕ
open_outlines_of s meshes zero = 0
open_outlines_of s meshes (suc layer) = open_outlines_of s meshes layer + open_on s meshes layer
