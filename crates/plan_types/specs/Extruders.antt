-- Extruders by number, and sets of them as the bits of a number.
use Rattle.std.specs.Prelude.{ℕ, ◌^◌, ◌/◌, ◌%◌, ◌==◌, Bool, false, List, slice_index_or}
use Rattle.settings_core.specs.Values.{ExtruderSettingsValue}

-- stands where there is no extruder of a number
abbrev pub no_extruder : ExtruderSettingsValue
no_extruder = record {
  material_print_temperature = 0;
  material_standby_temperature = 0;
  machine_nozzle_heat_up_speed = 0;
  machine_nozzle_cool_down_speed = 0;
  material_diameter = 0;
  material_flow = 0;
  retraction_enable = false;
  retraction_amount = 0;
  retraction_speed = 0;
  retraction_min_travel = 0;
  speed_travel = 0;
}

-- the settings of extruder e
abbrev pub extruder_of : List ExtruderSettingsValue → ℕ → ExtruderSettingsValue
extruder_of es e = slice_index_or es e no_extruder

-- bit e is set
abbrev pub has_bit : ℕ → ℕ → Bool
has_bit bits e = bits / 2 ^ e % 2 == 1
