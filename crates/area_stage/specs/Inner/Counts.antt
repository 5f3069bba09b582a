-- How many layers fit.
use Rattle.std.specs.Prelude.{ℕ, ◌<◌, ◌≤◌, List}
use Rattle.slice_base.specs.declared.points.Tri.{Tri}
use Rattle.slice_base.specs.Limits.{max_layers}
use Rattle.settings_core.specs.Values.{SettingsValue}
use Rattle.cross_section.specs.Heights.{top_of_all}
use Rattle.cross_section.specs.Planes.{IsLayerCount}
use Rattle.area_stage.specs.declared.faults.AreaFault.{AreaFault}
use Rattle.area_stage.specs.declared.faults.AreaFault.TheVariants.{NoLayers, TooManyLayers, TooTangled, NoMemory}

-- there are so many layers, 1 to 40,000
pub record FitsCount (s : SettingsValue) (meshes : List (List Tri)) (count : ℕ) : Type 0 where
  pub counted : IsLayerCount s (top_of_all meshes) count
  pub some : 0 < count
  pub few : count ≤ max_layers

-- there are none, or too many
abbrev pub IsCountFault : SettingsValue → List (List Tri) → AreaFault → Type 0
IsCountFault s meshes NoLayers = IsLayerCount s (top_of_all meshes) 0
IsCountFault s meshes (TooManyLayers n) = IsLayerCount s (top_of_all meshes) n × (max_layers < n)
IsCountFault s meshes (TooTangled mesh layer count) = ⊥
IsCountFault s meshes NoMemory = ⊥
