-- The words of a line, each with the space before it.
use Rattle.std.specs.Prelude.{ℕ, ℤ, ◌*◌, [], ◌++◌, Option, Some, None, codes}
use Rattle.std.specs.Int.RustNames.{unsigned_abs}
use Rattle.slice_base.specs.declared.points.Pt.{Pt}
use Rattle.slice_base.specs.Shapes.{Bytes}
use Rattle.gcode_text.specs.Numbers.{thousandths_of, millimetres_of, sign_of, hundred_thousandths_of}

-- F: a speed in µm/s, as millimetres a minute
abbrev pub feed_of : ℕ → Bytes
feed_of speed = codes " F" ++ thousandths_of (speed * 60)

-- F, where a speed is given
abbrev pub feed_if_given : Option ℕ → Bytes
feed_if_given None = []
feed_if_given (Some speed) = feed_of speed

-- X and Y: a point
abbrev pub point_of : Pt → Bytes
point_of p = codes " X" ++ millimetres_of p.x ++ codes " Y" ++ millimetres_of p.y

-- Z, where a height is given
abbrev pub height_if_given : Option ℤ → Bytes
height_if_given None = []
height_if_given (Some z) = codes " Z" ++ millimetres_of z

-- E: filament in hundred-thousandths of a millimetre, as millimetres
abbrev pub extrusion_of : ℤ → Bytes
extrusion_of e = codes " E" ++ sign_of e ++ hundred_thousandths_of (unsigned_abs e)
