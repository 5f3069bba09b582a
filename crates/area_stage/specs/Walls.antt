-- The walls of all meshes on a layer.
use Rattle.std.specs.Prelude.{ℕ, ℤ, pos, List, length, take, Result}
use Rattle.slice_base.specs.declared.points.Tri.{Tri}
use Rattle.slice_base.specs.Outcomes.{and_then, up_to}
use Rattle.settings_core.specs.Values.{SettingsValue, MeshSettingsValue}
use Rattle.cross_section.specs.Planes.{plane_of}
use Rattle.wall_skin.specs.declared.walling.WallSet.{WallSet}
use Rattle.wall_skin.specs.Walls.{walls_of}
use Rattle.area_stage.specs.Faults.{Tangle, named}
use Rattle.area_stage.specs.Meshes.{mesh_of, mesh_settings_of}
use Rattle.area_stage.specs.Outlines.{outline_of}

-- the walls of a mesh at a height, and what lies inside them, by the meshes before it
unfoldable pub walls_at : ℤ → List (List Tri) → List Tri → MeshSettingsValue → Result WallSet ℕ
walls_at z before mesh m =
    and_then (outline_of z before mesh) (λ outline. walls_of outline m.wall_line_count m.wall_line_width)

-- those of mesh i on a layer
abbrev pub mesh_walls_of : SettingsValue → List (List Tri) → ℕ → ℕ → Result WallSet Tangle
mesh_walls_of s meshes layer i =
    named i layer (walls_at (pos (plane_of s layer)) (take i meshes) (mesh_of meshes i) (mesh_settings_of s i))

-- those of all meshes on a layer, mesh by mesh
unfoldable pub layer_walls_of : SettingsValue → List (List Tri) → ℕ → Result (List WallSet) Tangle
layer_walls_of s meshes layer = up_to (mesh_walls_of s meshes layer) (length meshes)
