-- What the parts of the work on a plate answer.
use Rattle.std.specs.Prelude.{ℕ, pos, ◌≡◌, ◌<◌, ◌≤◌, List, [], length, Option, Some, None, Result, Ok, Err}
use Rattle.std.specs.List.{All}
use Rattle.slice_base.specs.declared.points.Tri.{Tri}
use Rattle.slice_base.specs.Boxes.{TriIn, TriOver, TriUnder}
use Rattle.slice_base.specs.Limits.{max_facets}
use Rattle.mesh_placing.specs.Volume.{bed_of}
use Rattle.settings_core.specs.Values.{SettingsValue as Settings}
use Rattle.settings_core.specs.declared.pairs.Pair.{Pair}
use Rattle.settings_core.specs.declared.fault.SettingFault.TheVariants as pair_fault
use Rattle.settings_core.specs.Resolve.{fault_of}
use Rattle.stl_text.specs.Mesh.{IsMesh, IsFault, HasTooMany}
use Rattle.plate_input.specs.declared.faults.PlateFault.{PlateFault}
use Rattle.plate_input.specs.declared.faults.PlateFault.TheVariants as fault
use Rattle.plate_input.specs.declared.plates.Plate.{Plate}
use Rattle.plate_input.specs.Meshes.{IsPlaced, MeshRefusal}
use Rattle.plate_input.specs.Plate.{HasFaultyPair, MakesPlate}

-- why the bytes give no triangles of mesh number m
abbrev pub ReadRefusal : ℕ → List ℕ → PlateFault → Type 0
ReadRefusal m bytes (fault.BadStl i line) = (i ≡ m) × IsFault bytes line
ReadRefusal m bytes (fault.TooManyTriangles i n) = (i ≡ m) × HasTooMany bytes n
ReadRefusal m bytes (fault.NoTriangles i) = (i ≡ m) × IsMesh bytes []
ReadRefusal m bytes r = ⊥

-- what the bytes give as the triangles of mesh number m, before they are moved
abbrev pub TrianglesGive : ℕ → List ℕ → Result (List Tri) PlateFault → Type 0
TrianglesGive m bytes (Ok tris) = IsMesh bytes tris × (0 < length tris)
TrianglesGive m bytes (Err r) = ReadRefusal m bytes r

-- what the bytes give as mesh number m
abbrev pub MeshGives : Settings → ℕ → List ℕ → Result (List Tri) PlateFault → Type 0
MeshGives s m bytes (Ok tris) = IsPlaced s m bytes tris
MeshGives s m bytes (Err r) = MeshRefusal s m bytes r

-- why pairs give no settings
abbrev pub SettingRefusal : PlateFault → List Pair → List ℕ → Type 0
SettingRefusal (fault.BadValue scope key) pairs es = HasFaultyPair pairs es pair_fault.BadValue scope key
SettingRefusal (fault.OutOfRange scope key) pairs es = HasFaultyPair pairs es pair_fault.OutOfRange scope key
SettingRefusal (fault.UnknownExtruder mesh) pairs es = fault_of pairs es ≡ Some (pair_fault.UnknownExtruder mesh)
SettingRefusal fault.NoMemory pairs es = Unit {0}
SettingRefusal r pairs es = ⊥

-- what is defined once the settings files were read: one of them isn't one, or these are the pairs
abbrev pub KeptGives : List Pair → Option (List ℕ) → List ℕ → List (List ℕ) → Result Plate PlateFault → Type 0
KeptGives pairs (Some name) es files a = a ≡ Err (fault.NotJson name)
KeptGives pairs None es files a = MakesPlate pairs es files a

-- a mesh has a triangle and no more than a file may have, and all its corners lie in the volume
pub record LiesInside (s : Settings) (tris : List Tri) : Type 0 where
  pub some : 0 < length tris
  pub few : length tris ≤ max_facets
  pub on_bed : All (TriIn (bed_of s)) tris
  pub over_bed : All (TriOver (pos 0)) tris
  pub under_top : All (TriUnder (pos s.machine_height)) tris
