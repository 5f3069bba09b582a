-- The lines of a file of G-code for Marlin, as bytes. Each ends with a line feed.
use Rattle.std.specs.Prelude.{ℕ, zero, suc, ℤ, Bool, true, false, [], ◌∷◌, ◌++◌, Option, codes, decimal}
use Rattle.slice_base.specs.declared.points.Pt.{Pt}
use Rattle.slice_base.specs.Shapes.{Bytes}
use Rattle.plan_types.specs.declared.plans.Kind.{Kind}
use Rattle.plan_types.specs.declared.plans.Kind.TheVariants.{WallOuter, WallInner, Skin, Fill, Skirt, Support}
use Rattle.gcode_text.specs.declared.labels.FixedLine.{FixedLine}
use Rattle.gcode_text.specs.declared.labels.FixedLine.TheVariants.{Flavor, Millimetres, Absolute, AbsoluteE, ZeroE}
use Rattle.gcode_text.specs.declared.labels.Counted.{Counted}
use Rattle.gcode_text.specs.declared.labels.Counted.TheVariants.{OpenOutlines, LayerCount, Layer}
use Rattle.gcode_text.specs.Numbers.{millionths_of}
use Rattle.gcode_text.specs.Words.{feed_of, feed_if_given, point_of, height_if_given, extrusion_of}

-- a text and a line feed
abbrev pub line_of : Bytes → Bytes
line_of text = text ++ 10 ∷ []

-- G0: a travel at this speed to a point, and to a height where one is given
abbrev pub travel_of : ℕ → Pt → Option ℤ → Bytes
travel_of speed to z = line_of (codes "G0" ++ feed_of speed ++ point_of to ++ height_if_given z)

-- G1: a print move to a point, up to this much filament; at this speed, or at that of the line before
abbrev pub extrude_of : Option ℕ → Pt → ℤ → Bytes
extrude_of speed to e = line_of (codes "G1" ++ feed_if_given speed ++ point_of to ++ extrusion_of e)

-- G1: the filament moves at this speed, and the nozzle stands still
abbrev pub filament_of : ℕ → ℤ → Bytes
filament_of speed e = line_of (codes "G1" ++ feed_of speed ++ extrusion_of e)

-- M109 waits for the temperature, M104 doesn't
abbrev pub heat_label_of : Bool → Bytes
heat_label_of true = codes "M109 T"
heat_label_of false = codes "M104 T"

-- an extruder gets a temperature in °C
abbrev pub heat_of : Bool → ℕ → ℕ → Bytes
heat_of wait extruder degrees = line_of (heat_label_of wait ++ decimal extruder ++ codes " S" ++ decimal degrees)

-- M190 waits for the temperature, M140 doesn't
abbrev pub bed_label_of : Bool → Bytes
bed_label_of true = codes "M190 S"
bed_label_of false = codes "M140 S"

-- the bed gets a temperature in °C
abbrev pub bed_of : Bool → ℕ → Bytes
bed_of wait degrees = line_of (bed_label_of wait ++ decimal degrees)

-- this extruder is the present one from here on
abbrev pub tool_of : ℕ → Bytes
tool_of extruder = line_of (codes "T" ++ decimal extruder)

-- M106 sets the fan's power, of 255 at most; M107 switches it off
abbrev pub blow_of : ℕ → Bytes
blow_of zero = line_of (codes "M107")
blow_of (suc n) = line_of (codes "M106 S" ++ decimal (suc n))

-- the lines that are always the same
abbrev pub fixed_label_of : FixedLine → Bytes
fixed_label_of Flavor = codes ";FLAVOR:Marlin"
fixed_label_of Millimetres = codes "G21"
fixed_label_of Absolute = codes "G90"
fixed_label_of AbsoluteE = codes "M82"
fixed_label_of ZeroE = codes "G92 E0"

-- a line that is always the same
abbrev pub plain_of : FixedLine → Bytes
plain_of word = line_of (fixed_label_of word)

-- what stands before a number of something
abbrev pub count_label_of : Counted → Bytes
count_label_of OpenOutlines = codes ";OPEN_OUTLINES:"
count_label_of LayerCount = codes ";LAYER_COUNT:"
count_label_of Layer = codes ";LAYER:"

-- a number of something
abbrev pub count_of : Counted → ℕ → Bytes
count_of what n = line_of (count_label_of what ++ decimal n)

-- the name of what a path is part of
abbrev pub kind_label_of : Kind → Bytes
kind_label_of WallOuter = codes "WALL-OUTER"
kind_label_of WallInner = codes "WALL-INNER"
kind_label_of Skin = codes "SKIN"
kind_label_of Fill = codes "FILL"
kind_label_of Skirt = codes "SKIRT"
kind_label_of Support = codes "SUPPORT"

-- what the paths that follow are part of
abbrev pub kind_of : Kind → Bytes
kind_of kind = line_of (codes ";TYPE:" ++ kind_label_of kind)

-- a time in µs since the beginning of the print, as seconds
abbrev pub elapsed_of : ℕ → Bytes
elapsed_of micros = line_of (codes ";TIME_ELAPSED:" ++ millionths_of micros)
