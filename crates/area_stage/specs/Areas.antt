-- The job that settings and meshes give, or why they give none.
use Rattle.std.specs.Prelude.{ℕ, ◌≡◌, ◌<◌, ◌≤◌, List, length, map, Result, Ok, Err}
use Rattle.slice_base.specs.declared.points.Tri.{Tri}
use Rattle.slice_base.specs.Limits.{max_layers}
use Rattle.slice_base.specs.Outcomes.{and_then, up_to}
use Rattle.slice_base.specs.Shapes.{Loops}
use Rattle.settings_core.specs.Values.{SettingsValue}
use Rattle.cross_section.specs.Heights.{top_of_all}
use Rattle.cross_section.specs.Planes.{IsLayerCount}
use Rattle.wall_skin.specs.declared.walling.WallSet.{WallSet}
use Rattle.plan_types.specs.Jobs.{JobValue}
use Rattle.area_stage.specs.declared.faults.AreaFault.{AreaFault}
use Rattle.area_stage.specs.declared.faults.AreaFault.TheVariants.{NoLayers, TooManyLayers, TooTangled, NoMemory}
use Rattle.area_stage.specs.Faults.{Tangle}
use Rattle.area_stage.specs.Outlines.{open_outlines_of}
use Rattle.area_stage.specs.Walls.{layer_walls_of}
use Rattle.area_stage.specs.Skirt.{job_skirt_of}
use Rattle.area_stage.specs.Fills.{all_inners_of, layer_splits_of}
use Rattle.area_stage.specs.Jobs.{loops_of, joined_job_of}

-- the job of n layers with these walls and this skirt, by their skin and fill, layer by layer
abbrev pub with_splits : SettingsValue → List (List Tri) → ℕ → List (List WallSet) → Loops → Result JobValue Tangle
with_splits s meshes n walls skirt =
    and_then (up_to (layer_splits_of s (all_inners_of walls (length s.meshes))) n)
    (λ splits. Ok (joined_job_of s (map (map loops_of) walls) splits skirt (open_outlines_of s meshes n)))

-- the job of n layers with these walls, by its skirt
abbrev pub with_skirt : SettingsValue → List (List Tri) → ℕ → List (List WallSet) → Result JobValue Tangle
with_skirt s meshes n walls = and_then (job_skirt_of s meshes) (with_splits s meshes n walls)

-- the job of n layers. The first cut that fails ends the work, which goes on in this order: outlines and walls by
-- layer, then mesh; the skirt; skin and fill by layer, then mesh
unfoldable pub job_up_to : SettingsValue → List (List Tri) → ℕ → Result JobValue Tangle
job_up_to s meshes n = and_then (up_to (layer_walls_of s meshes) n) (with_skirt s meshes n)

-- there are 1 to 40,000 layers, and this is what they give
pub record LayersGive (s : SettingsValue) (meshes : List (List Tri)) (answer : Result JobValue Tangle) : Type 0 where
  pub count : ℕ
  pub counted : IsLayerCount s (top_of_all meshes) count
  pub some : 0 < count
  pub few : count ≤ max_layers
  pub given : job_up_to s meshes count ≡ answer

-- what settings and meshes give: a job, no layers, too many of them, or a cut that has too many edges
abbrev pub AreasGive : SettingsValue → List (List Tri) → Result JobValue AreaFault → Type 0
AreasGive s meshes (Ok job) = LayersGive s meshes (Ok job)
AreasGive s meshes (Err NoLayers) = IsLayerCount s (top_of_all meshes) 0
AreasGive s meshes (Err (TooManyLayers n)) = IsLayerCount s (top_of_all meshes) n × (max_layers < n)
AreasGive s meshes (Err (TooTangled mesh layer count)) =
    LayersGive s meshes (Err (record { mesh = mesh; layer = layer; count = count }))
AreasGive s meshes (Err NoMemory) = ⊥
