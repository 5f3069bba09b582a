-- The text of a path: commands at its boundary, the travel to it, its print moves.
use Rattle.std.specs.Prelude.{ℕ, ℤ, ◌+◌, ◌==◌, Bool, true, false, cond, List, [], ◌∷◌, ◌++◌, Option, Some, None}
use Rattle.slice_base.specs.declared.points.Pt.{Pt}
use Rattle.slice_base.specs.Shapes.{Bytes, Points}
use Rattle.settings_core.specs.Values.{ExtruderSettingsValue}
use Rattle.plan_types.specs.declared.plans.Kind.{Kind}
use Rattle.plan_types.specs.declared.plans.Kind.TheVariants.{WallOuter, WallInner, Skin, Fill, Skirt, Support}
use Rattle.plan_types.specs.declared.inserts.Insert.{Insert}
use Rattle.plan_types.specs.Extruders.{extruder_of}
use Rattle.plan_types.specs.Paths.{PathValue}
use Rattle.gcode_text.specs.declared.labels.FixedLine.TheVariants.{ZeroE}
use Rattle.gcode_text.specs.Lines.{travel_of, extrude_of, filament_of, heat_of, tool_of, plain_of, kind_of}
use Rattle.gcode_write.specs.Filament.{line_area_of, move_volume_of, extruded_of, retracted_of}

-- where another extruder follows, the one just left goes to its standby temperature
abbrev pub leave_of : List ExtruderSettingsValue → Bool → ℕ → Bytes
leave_of es true from = []
leave_of es false from = heat_of false from (extruder_of es from).material_standby_temperature

-- a preheat, where it stands before the path of this number
abbrev pub insert_of : ℕ → Insert → Bytes
insert_of at i = cond (i.at == at) (heat_of false i.extruder i.degrees) []

-- the preheats that stand before the path of this number, in order
abbrev pub inserts_of : ℕ → List Insert → Bytes
inserts_of at [] = []
inserts_of at (i ∷ is) = insert_of at i ++ inserts_of at is

-- an extruder becomes the present one, is waited for, and its filament is at zero
abbrev pub change_of : ℕ → ℕ → Bytes
change_of e degrees = tool_of e ++ heat_of true e degrees ++ plain_of ZeroE

-- the change to an extruder, where it isn't the present one
abbrev pub enter_of : List ExtruderSettingsValue → Bool → ℕ → Bytes
enter_of es true e = []
enter_of es false e = change_of e (extruder_of es e).material_print_temperature

-- what stands before a path of extruder e, after one of another or the same
abbrev pub boundary_of : List ExtruderSettingsValue → ℕ → ℕ → ℕ → List Insert → Bytes
boundary_of es from e at is = leave_of es (from == e) from ++ inserts_of at is ++ enter_of es (from == e) e

-- filament is pulled back, where a path has a retraction
abbrev pub retraction_of : ExtruderSettingsValue → Bool → ℕ → Bytes
retraction_of x false volume = []
retraction_of x true volume = filament_of x.retraction_speed (retracted_of x volume)

-- and is pushed in again
abbrev pub retraction_end_of : ExtruderSettingsValue → Bool → ℕ → Bytes
retraction_end_of x false volume = []
retraction_end_of x true volume = filament_of x.retraction_speed (extruded_of x volume)

-- the travel to a path's first point
abbrev pub approach_of : ExtruderSettingsValue → Bool → ℕ → Pt → Option ℤ → Bytes
approach_of x retract volume to z =
    retraction_of x retract volume ++ travel_of x.speed_travel to z ++ retraction_end_of x retract volume

-- kinds by number
abbrev pub kind_number_of : Kind → ℕ
kind_number_of WallOuter = 0
kind_number_of WallInner = 1
kind_number_of Skin = 2
kind_number_of Fill = 3
kind_number_of Skirt = 4
kind_number_of Support = 5

-- a path is of the same kind as the one before, where its extruder's plan has one
abbrev pub is_same_kind : Option Kind → Kind → Bool
is_same_kind None kind = false
is_same_kind (Some before) kind = kind_number_of before == kind_number_of kind

-- the kind, where it is another one
abbrev pub kind_change_of : Bool → Kind → Bytes
kind_change_of true kind = []
kind_change_of false kind = kind_of kind

-- print moves from a point through others, behind this volume; the first of a path has the speed
abbrev pub print_moves_of : ExtruderSettingsValue → ℕ → Option ℕ → ℕ → Pt → Points → Bytes
print_moves_of x area speed volume from [] = []
print_moves_of x area speed volume from (p ∷ ps) =
    extrude_of speed p (extruded_of x (volume + move_volume_of x area from p)) ++
    print_moves_of x area None (volume + move_volume_of x area from p) p ps

-- the travel to a path, its kind where it changes, and its print moves, by its points
abbrev pub print_of : ExtruderSettingsValue → Option ℤ → Option Kind → ℕ → PathValue → Points → Bytes
print_of x z kind volume path [] = []
print_of x z kind volume path (from ∷ ps) =
    approach_of x path.retract volume from z ++ kind_change_of (is_same_kind kind path.kind) path.kind ++
    print_moves_of x (line_area_of path) (Some path.speed) volume from ps
