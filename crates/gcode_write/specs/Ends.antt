-- What stands before and after the layers.
use Rattle.std.specs.Prelude.{ℕ, zero, suc, ◌==◌, Bool, true, false, ◌&&◌, ◌||◌, not, cond, List, [], ◌∷◌, ◌++◌, length}
use Rattle.slice_base.specs.Shapes.{Bytes}
use Rattle.plan_types.specs.Extruders.{extruder_of, has_bit}
use Rattle.plan_types.specs.Jobs.{JobValue}
use Rattle.plan_types.specs.Orders.{all_extruders}
use Rattle.gcode_text.specs.declared.labels.FixedLine.TheVariants.{Flavor, Millimetres, Absolute, AbsoluteE, ZeroE}
use Rattle.gcode_text.specs.declared.labels.Counted.TheVariants.{OpenOutlines, LayerCount}
use Rattle.gcode_text.specs.Lines.{heat_of, bed_of, tool_of, blow_of, plain_of, count_of}
use Rattle.gcode_write.specs.declared.progress.Progress.{Progress}

-- extruder e is wanted on some layer; where none is, the first one counts
abbrev pub is_used : JobValue → ℕ → Bool
is_used job e = has_bit job.used e || (job.used == 0 && job.first == e)

-- the bed gets its temperature, where it is heated
abbrev pub bed_heating_of : Bool → ℕ → Bytes
bed_heating_of wait zero = []
bed_heating_of wait (suc n) = bed_of wait (suc n)

-- a used extruder other than the first waits at its standby temperature
abbrev pub is_waiting : JobValue → ℕ → Bool
is_waiting job e = is_used job e && not (e == job.first)

-- the temperature at which an extruder waits, °C
abbrev pub standby_degrees_of : JobValue → ℕ → ℕ
standby_degrees_of job e = (extruder_of job.settings.extruders e).material_standby_temperature

-- it gets that temperature
abbrev pub standby_of : JobValue → ℕ → Bytes
standby_of job e = cond (is_waiting job e) (heat_of false e (standby_degrees_of job e)) []

-- each of these that waits gets it, in order
abbrev pub standbys_of : JobValue → List ℕ → Bytes
standbys_of job [] = []
standbys_of job (e ∷ es) = standby_of job e ++ standbys_of job es

-- the temperature at which an extruder prints, °C
abbrev pub print_degrees_of : JobValue → ℕ → ℕ
print_degrees_of job e = (extruder_of job.settings.extruders e).material_print_temperature

-- bed and extruders heat up; the bed and the first extruder are waited for
abbrev pub heating_of : JobValue → Bytes
heating_of job =
    bed_heating_of false job.settings.material_bed_temperature
    ++ heat_of false job.first (print_degrees_of job job.first) ++
    standbys_of job all_extruders ++ bed_heating_of true job.settings.material_bed_temperature ++
    heat_of true job.first (print_degrees_of job job.first)

-- what stands before the layers
abbrev pub header_of : JobValue → Bytes
header_of job =
    plain_of Flavor ++ count_of OpenOutlines job.open_outlines ++ heating_of job ++ job.settings.machine_start_gcode ++
    plain_of Millimetres ++ plain_of Absolute ++ plain_of AbsoluteE ++ tool_of job.first ++ plain_of ZeroE ++ blow_of 0
    ++
    count_of LayerCount (length job.layers)

-- where the layers begin: with the first extruder, nothing printed yet, the fan off
abbrev pub start_of : JobValue → Progress
start_of job = record { extruder = job.first; volume = 0; elapsed = 0; fan = 0 }

-- a used extruder is switched off
abbrev pub off_of : JobValue → ℕ → Bytes
off_of job e = cond (is_used job e) (heat_of false e 0) []

-- each of these that is used is switched off, in order
abbrev pub offs_of : JobValue → List ℕ → Bytes
offs_of job [] = []
offs_of job (e ∷ es) = off_of job e ++ offs_of job es

-- the bed is switched off, where it was heated
abbrev pub bed_off_of : ℕ → Bytes
bed_off_of zero = []
bed_off_of (suc n) = bed_of false 0

-- what stands after the layers
abbrev pub footer_of : JobValue → Bytes
footer_of job =
    offs_of job all_extruders ++ bed_off_of job.settings.material_bed_temperature ++ blow_of 0 ++
    job.settings.machine_end_gcode
