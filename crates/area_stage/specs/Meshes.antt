-- Meshes and their settings by number.
use Rattle.std.specs.Prelude.{ℕ, pos, false, List, [], slice_index_or}
use Rattle.slice_base.specs.declared.points.Tri.{Tri}
use Rattle.settings_core.specs.declared.resolved.Seam.TheVariants.{Shortest}
use Rattle.settings_core.specs.Values.{SettingsValue, MeshSettingsValue}

-- stands where there is no mesh of a number
abbrev pub no_mesh_settings : MeshSettingsValue
no_mesh_settings = record {
  wall_line_count = 0;
  wall_line_width = 0;
  top_layers = 0;
  bottom_layers = 0;
  infill_line_distance = 0;
  speed_wall_0 = 0;
  speed_topbottom = 0;
  speed_wall_x = 0;
  speed_infill = 0;
  z_seam_type = Shortest;
  center_object = false;
  mesh_position_x = pos 0;
  mesh_position_y = pos 0;
  mesh_position_z = pos 0;
  extruder_nr = 0;
}

-- the triangles of mesh i
abbrev pub mesh_of : List (List Tri) → ℕ → List Tri
mesh_of meshes i = slice_index_or meshes i []

-- the settings of mesh i
abbrev pub mesh_settings_of : SettingsValue → ℕ → MeshSettingsValue
mesh_settings_of s i = slice_index_or s.meshes i no_mesh_settings
