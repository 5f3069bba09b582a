-- Skin and fill of all meshes on a layer.
use Rattle.std.specs.Prelude.{ℕ, List, [], length, map, slice_index_or, Result}
use Rattle.std.specs.List.{range_with_len}
use Rattle.slice_base.specs.Shapes.{Loops}
use Rattle.slice_base.specs.Outcomes.{up_to}
use Rattle.settings_core.specs.Values.{SettingsValue}
use Rattle.wall_skin.specs.declared.walling.WallSet.{WallSet}
use Rattle.wall_skin.specs.declared.skins.Split.{Split}
use Rattle.wall_skin.specs.Walls.{set_of}
use Rattle.wall_skin.specs.Skin.{skin_of}
use Rattle.area_stage.specs.Faults.{Tangle, named}
use Rattle.area_stage.specs.Meshes.{mesh_settings_of}

-- what lies inside the walls of mesh i, by the walls of all meshes
abbrev pub inner_of : ℕ → List WallSet → Loops
inner_of i sets = (slice_index_or sets i (set_of [] [])).inner

-- what lies inside the walls of mesh i on each layer
abbrev pub inners_of : List (List WallSet) → ℕ → List Loops
inners_of walls i = map (inner_of i) walls

-- the same of each of so many meshes
abbrev pub all_inners_of : List (List WallSet) → ℕ → List (List Loops)
all_inners_of walls count = map (inners_of walls) (range_with_len 0 count)

-- skin and fill of mesh i on a layer
abbrev pub mesh_split_of : SettingsValue → List (List Loops) → ℕ → ℕ → Result Split Tangle
mesh_split_of s inners layer i =
    named i layer
    (skin_of (slice_index_or inners i []) layer (mesh_settings_of s i).bottom_layers
    (mesh_settings_of s i).top_layers)

-- those of all meshes on a layer, mesh by mesh
unfoldable pub layer_splits_of : SettingsValue → List (List Loops) → ℕ → Result (List Split) Tangle
layer_splits_of s inners layer = up_to (mesh_split_of s inners layer) (length s.meshes)
