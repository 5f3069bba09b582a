-- A job of its areas.
use Rattle.std.specs.Prelude.{ℕ, ◌+◌, pos, List, [], ◌∷◌, map}
use Rattle.slice_base.specs.Shapes.{Loops}
use Rattle.settings_core.specs.Values.{SettingsValue}
use Rattle.cross_section.specs.Planes.{z_of, thickness_of}
use Rattle.wall_skin.specs.declared.walling.WallSet.{WallSet}
use Rattle.wall_skin.specs.declared.skins.Split.{Split}
use Rattle.plan_types.specs.declared.jobs.LayerAreas.{LayerAreas}
use Rattle.plan_types.specs.Areas.{MeshAreasValue}
use Rattle.plan_types.specs.Jobs.{JobValue}
use Rattle.plan_types.specs.Orders.{extruder_order_of}
use Rattle.area_stage.specs.Extruders.{wanted_of, used_of, first_of, last_of}

-- walls without what lies inside them
abbrev pub loops_of : WallSet → List Loops
loops_of set = set.loops

-- the areas of a mesh on a layer
abbrev pub areas_of : List Loops → Split → MeshAreasValue
areas_of walls split = record { walls = walls; skin = split.skin; fill = split.fill }

-- those of each mesh
abbrev pub areas_on : List (List Loops) → List Split → List MeshAreasValue
areas_on [] splits = []
areas_on (walls ∷ more) [] = []
areas_on (walls ∷ more) (split ∷ splits) = areas_of walls split ∷ areas_on more splits

-- those of each layer
abbrev pub all_areas_of : List (List (List Loops)) → List (List Split) → List (List MeshAreasValue)
all_areas_of [] splits = []
all_areas_of (walls ∷ more) [] = []
all_areas_of (walls ∷ more) (layer ∷ splits) = areas_on walls layer ∷ all_areas_of more splits

-- layer k with its areas, where this extruder printed last
abbrev pub layer_of : SettingsValue → ℕ → ℕ → List MeshAreasValue → LayerAreas
layer_of s k last areas = record {
  number = k;
  z = pos (z_of s k);
  thickness = pos (thickness_of s k);
  order = extruder_order_of last (wanted_of s areas);
  meshes = areas;
}

-- the layers from number k on, where this extruder printed last
abbrev pub layers_from : SettingsValue → ℕ → ℕ → List (List MeshAreasValue) → List LayerAreas
layers_from s k last [] = []
layers_from s k last (areas ∷ more) =
    layer_of s k last areas ∷ layers_from s (k + 1) (last_of last (extruder_order_of last (wanted_of s areas))) more

-- the job of these areas
abbrev pub job_of : SettingsValue → List (List MeshAreasValue) → Loops → ℕ → JobValue
job_of s areas skirt open_outlines = record {
  settings = s;
  layers = layers_from s 0 (first_of (map (wanted_of s) areas)) areas;
  skirt = skirt;
  first = first_of (map (wanted_of s) areas);
  used = used_of (map (wanted_of s) areas);
  open_outlines = open_outlines;
}

-- the job of the walls, skin and fill of all layers
abbrev pub joined_job_of : SettingsValue → List (List (List Loops)) → List (List Split) → Loops → ℕ → JobValue
joined_job_of s walls splits skirt open_outlines = job_of s (all_areas_of walls splits) skirt open_outlines
