-- Walls of a mesh in two steps, and what the walls of a layer are handed on with.
use Rattle.std.specs.Prelude.{ℕ, ◌≡◌, ◌*◌, ◌^◌, ◌<◌, ◌≤◌, pos, List, Result, Ok, MatchResult}
use Rattle.slice_base.specs.declared.points.Tri.{Tri}
use Rattle.slice_base.specs.Shapes.{Loops}
use Rattle.slice_base.specs.Outcomes.{and_then, each_ok, up_to}
use Rattle.settings_core.specs.Values.{SettingsValue, MeshSettingsValue}
use Rattle.cross_section.specs.Planes.{plane_of}
use Rattle.wall_skin.specs.declared.walling.WallSet.{WallSet}
use Rattle.wall_skin.specs.Walls.{walls_of}
use Rattle.area_stage.specs.declared.faults.AreaFault.{AreaFault}
use Rattle.area_stage.specs.Inner.Faults.{IsAreaFault}
use Rattle.area_stage.specs.declared.walling.LayerWalls.{LayerWalls}
use Rattle.area_stage.specs.declared.walling.JobWalls.{JobWalls}
use Rattle.area_stage.specs.Outlines.{cleaned_of, without_of, open_on, open_outlines_of}
use Rattle.area_stage.specs.Walls.{layer_walls_of}

-- the walls of an outline, by the settings of its mesh
abbrev pub walls_with : MeshSettingsValue → Loops → Result WallSet ℕ
walls_with m outline = walls_of outline m.wall_line_count m.wall_line_width

-- the walls of a cleaned outline without others
abbrev pub walls_without_of : MeshSettingsValue → Loops → List Loops → Result WallSet ℕ
walls_without_of m own others = and_then (without_of own others) (walls_with m)

-- at most as many chains as a stitching counts, of 16 meshes
abbrev pub most_open : ℕ
most_open = 16 * 2 ^ 32

-- these are the walls of a layer, with its open chains and, of the first layer, the cleaned outlines
pub record AreLayerWalls (s : SettingsValue) (meshes : List (List Tri)) (layer : ℕ) (w : LayerWalls) : Type 0 where
  pub sets : layer_walls_of s meshes layer ≡ Ok w.sets
  pub outlines : layer ≡ 0 → each_ok (cleaned_of (pos (plane_of s 0))) meshes ≡ Ok w.outlines
  pub open_outlines : w.open_outlines ≡ open_on s meshes layer
  pub few : w.open_outlines ≤ most_open

-- these are the walls of the layers below number n, with their open chains and the first cleaned outlines
pub record AreJobWalls (s : SettingsValue) (meshes : List (List Tri)) (n : ℕ) (w : JobWalls) : Type 0 where
  pub sets : up_to (layer_walls_of s meshes) n ≡ Ok w.sets
  pub outlines : 0 < n → each_ok (cleaned_of (pos (plane_of s 0))) meshes ≡ Ok w.outlines
  pub open_outlines : w.open_outlines ≡ open_outlines_of s meshes n
  pub few : w.open_outlines ≤ n * most_open

-- the result has the walls of the layer of its number, or the fault that there is, up to want of memory
abbrev pub GivesLayerWalls : SettingsValue → List (List Tri) → ℕ → Result LayerWalls AreaFault → Type 0
GivesLayerWalls s meshes layer result =
    MatchResult result (AreLayerWalls s meshes layer) (IsAreaFault (layer_walls_of s meshes layer))
