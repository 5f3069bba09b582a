-- A plate as contracts see it.
use Rattle.std.specs.Prelude.{pos, ◌≡◌, ◌<◌, ◌≤◌, List, length}
use Rattle.std.specs.List.{All}
use Rattle.slice_base.specs.declared.points.Tri.{Tri}
use Rattle.slice_base.specs.Boxes.{TriIn, TriOver, TriUnder}
use Rattle.slice_base.specs.Limits.{max_facets}
use Rattle.settings_core.specs.Values.{SettingsValue}
use Rattle.mesh_placing.specs.Volume.{bed_of}

-- the settings of a print, and the triangles of each mesh
pub record PlateValue : Type 0 where
  pub settings : SettingsValue
  pub meshes : List (List Tri)

-- there are the meshes of the settings, one at least; each has a triangle and no more than a file may have; and all
-- corners lie in the volume: over the bed, and from there up to its height
pub record AreInPlace (s : SettingsValue) (meshes : List (List Tri)) : Type 0 where
  pub some : 0 < length meshes
  pub as_many : length meshes ≡ length s.meshes
  pub some_triangles : All (λ tris. 0 < length tris) meshes
  pub few_triangles : All (λ tris. length tris ≤ max_facets) meshes
  pub on_bed : All (All (TriIn (bed_of s))) meshes
  pub over_bed : All (All (TriOver (pos 0))) meshes
  pub under_top : All (All (TriUnder (pos s.machine_height))) meshes
