-- The skirt: lines round all that is printed on the first layer.
use Rattle.std.specs.Prelude.{ℕ, ◌+◌, ◌==◌, pos, cond, int_lt, List, [], ◌∷◌, ◌++◌, filter, Result, Ok}
use Rattle.slice_base.specs.declared.points.Tri.{Tri}
use Rattle.slice_base.specs.Shapes.{Loops}
use Rattle.slice_base.specs.Outcomes.{and_then, fold_ok, each_ok, up_to}
use Rattle.settings_core.specs.Values.{SettingsValue}
use Rattle.cross_section.specs.Planes.{plane_of}
use Rattle.clip_core.specs.declared.keeping.Operation.TheVariants.{Unite}
use Rattle.clip_core.specs.Clip.{clipped_of}
use Rattle.clip_core.specs.Areas.{area_of}
use Rattle.offset_core.specs.Offset.{offset_of}
use Rattle.wall_skin.specs.Walls.{middle_of}
use Rattle.area_stage.specs.Faults.{Tangle, named}
use Rattle.area_stage.specs.Meshes.{mesh_settings_of}
use Rattle.area_stage.specs.Outlines.{cleaned_of}

-- what lies in one of these regions, united from the left
abbrev pub united_of : List Loops → Result Loops ℕ
united_of [] = Ok []
united_of (r ∷ rs) = fold_ok (clipped_of Unite) r rs

-- how far line k lies outside: the gap, half a line's width, rounded up, and k whole ones; lines are as wide as the
-- walls of the first mesh
abbrev pub line_distance_of : SettingsValue → ℕ → ℕ
line_distance_of s k = s.skirt_gap + middle_of (mesh_settings_of s 0).wall_line_width k

-- the loops that aren't holes
abbrev pub without_holes : Loops → Loops
without_holes loops = filter (λ l. int_lt (pos 0) (area_of l)) loops

-- line k round a region
abbrev pub line_of : SettingsValue → Loops → ℕ → Result Loops ℕ
line_of s region k = and_then (offset_of (pos (line_distance_of s k)) region) (λ loops. Ok (without_holes loops))

-- the loops of all lines, line by line
abbrev pub joined : List Loops → Loops
joined [] = []
joined (r ∷ rs) = r ++ joined rs

-- all lines round a region
abbrev pub lines_of : SettingsValue → Loops → Result Loops ℕ
lines_of s region = and_then (up_to (line_of s region) s.skirt_line_count) (λ lines. Ok (joined lines))

-- all lines round these regions, united
abbrev pub lines_round_of : SettingsValue → List Loops → Result Loops ℕ
lines_round_of s regions = and_then (united_of regions) (lines_of s)

-- the lines round these outlines; none where no lines are wanted
unfoldable pub skirt_of : SettingsValue → List Loops → Result Loops ℕ
skirt_of s outlines = cond (s.skirt_line_count == 0) (Ok []) (lines_round_of s outlines)

-- the skirt of a job, by the cleaned outlines of the first layer; its failing cut has the first mesh's name
unfoldable pub job_skirt_of : SettingsValue → List (List Tri) → Result Loops Tangle
job_skirt_of s meshes = named 0 0 (and_then (each_ok (cleaned_of (pos (plane_of s 0))) meshes) (skirt_of s))
