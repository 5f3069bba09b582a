-- Settings as contracts see them.
use Rattle.std.specs.Prelude.{ℕ, ℤ, Bool, List}
use Rattle.settings_core.specs.declared.resolved.Seam.{Seam}

-- the settings of one extruder
pub record ExtruderSettingsValue : Type 0 where
  pub material_print_temperature : ℕ
  pub material_standby_temperature : ℕ
  pub machine_nozzle_heat_up_speed : ℕ
  pub machine_nozzle_cool_down_speed : ℕ
  pub material_diameter : ℕ
  pub material_flow : ℕ
  pub retraction_enable : Bool
  pub retraction_amount : ℕ
  pub retraction_speed : ℕ
  pub retraction_min_travel : ℕ
  pub speed_travel : ℕ

-- the settings of one mesh
pub record MeshSettingsValue : Type 0 where
  pub wall_line_count : ℕ
  pub wall_line_width : ℕ
  pub top_layers : ℕ
  pub bottom_layers : ℕ
  pub infill_line_distance : ℕ
  pub speed_wall_0 : ℕ
  pub speed_topbottom : ℕ
  pub speed_wall_x : ℕ
  pub speed_infill : ℕ
  pub z_seam_type : Seam
  pub center_object : Bool
  pub mesh_position_x : ℤ
  pub mesh_position_y : ℤ
  pub mesh_position_z : ℤ
  pub extruder_nr : ℕ

-- the settings of a print: of the whole print, of each extruder and of each mesh
pub record SettingsValue : Type 0 where
  pub layer_height : ℕ
  pub layer_height_0 : ℕ
  pub material_bed_temperature : ℕ
  pub machine_extruder_count : ℕ
  pub skirt_line_count : ℕ
  pub skirt_gap : ℕ
  pub layer_start_x : ℤ
  pub layer_start_y : ℤ
  pub machine_width : ℕ
  pub machine_depth : ℕ
  pub machine_height : ℕ
  pub machine_start_gcode : List ℕ
  pub machine_end_gcode : List ℕ
  pub cool_fan_speed : ℕ
  pub cool_fan_full_layer : ℕ
  pub cool_min_layer_time : ℕ
  pub cool_min_speed : ℕ
  pub preheat_window_layers : ℕ
  pub extruders : List ExtruderSettingsValue
  pub meshes : List MeshSettingsValue
