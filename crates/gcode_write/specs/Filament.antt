-- Volumes of print moves, and the filament that they take.
use Rattle.std.specs.Prelude.{ℕ, ℤ, pos, ◌*◌, ◌-ℤ◌}
use Rattle.std.specs.Int.RustNames.{unsigned_abs}
use Rattle.slice_base.specs.declared.points.Pt.{Pt}
use Rattle.slice_base.specs.Plane.{square_of}
use Rattle.slice_base.specs.Whole.{root_of, rounded}
use Rattle.settings_core.specs.Values.{ExtruderSettingsValue}
use Rattle.plan_types.specs.Paths.{PathValue}
use Rattle.plan_types.specs.Plans.{volume_of}

-- how much a printed line fills across: its width by its height, µm²
abbrev pub line_area_of : PathValue → ℕ
line_area_of path = unsigned_abs path.width * unsigned_abs path.thickness

-- what a print move fills: its length by its line's area, µm³, by the extruder's flow in percent
abbrev pub move_volume_of : ExtruderSettingsValue → ℕ → Pt → Pt → ℕ
move_volume_of x area from to = root_of (square_of from to) * area * x.material_flow

-- what all print moves of a path fill, in the same unit
abbrev pub path_volume_of : ExtruderSettingsValue → PathValue → ℕ
path_volume_of x path = volume_of path * x.material_flow

-- the filament for a volume in this unit, by one division: hundred-thousandths of a millimetre of a thread of this
-- diameter in µm, with 355/113 for pi
abbrev pub filament_through : ℕ → ℕ → ℤ
filament_through diameter volume = rounded (pos (volume * 452)) (355 * (diameter * diameter))

-- where an extruder's filament stands after this volume
abbrev pub extruded_of : ExtruderSettingsValue → ℕ → ℤ
extruded_of x volume = filament_through x.material_diameter volume

-- the same, pulled back
abbrev pub retracted_of : ExtruderSettingsValue → ℕ → ℤ
retracted_of x volume = extruded_of x volume -ℤ pos (100 * x.retraction_amount)
