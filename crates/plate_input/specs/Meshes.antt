-- The meshes that bytes give, in place.
use Rattle.std.specs.Prelude.{ℕ, ◌≡◌, ◌+◌, ◌<◌, List, [], ◌∷◌, length, ◌⊎◌, Some, None, Result, Ok, Err}
use Rattle.slice_base.specs.declared.points.Tri.{Tri}
use Rattle.settings_core.specs.declared.resolved.Settings.{Settings}
use Rattle.stl_text.specs.Mesh.{IsMesh, IsFault, HasTooMany}
use Rattle.mesh_placing.specs.declared.placing.Excess.{Excess}
use Rattle.mesh_placing.specs.Extents.{extent_of}
use Rattle.mesh_placing.specs.Places.{placed}
use Rattle.mesh_placing.specs.Volume.{excess_of, first_outside}
use Rattle.plate_input.specs.declared.faults.PlateFault.{PlateFault}
use Rattle.plate_input.specs.declared.faults.PlateFault.TheVariants as fault

-- the bytes are a mesh with a triangle, and these are its triangles as mesh number m, moved to their
-- place, where they lie in the volume
pub record IsPlaced (s : Settings) (m : ℕ) (bytes : List ℕ) (tris : List Tri) : Type 0 where
  pub read : List Tri
  pub mesh : IsMesh bytes read
  pub some : 0 < length read
  pub inside : first_outside s (placed s m read) ≡ None
  pub in_place : tris ≡ placed s m read

-- the bytes are a mesh of which that triangle is the first with a corner outside the volume, and which reaches out so
-- far
pub record IsOutside (s : Settings) (m : ℕ) (bytes : List ℕ) (triangle : ℕ) (excess : Excess) : Type 0 where
  pub read : List Tri
  pub mesh : IsMesh bytes read
  pub outside : first_outside s (placed s m read) ≡ Some triangle
  pub furthest : excess ≡ excess_of s (extent_of (placed s m read))

-- why the bytes give no mesh number m
abbrev pub MeshRefusal : Settings → ℕ → List ℕ → PlateFault → Type 0
MeshRefusal s m bytes (fault.BadStl i line) = (i ≡ m) × IsFault bytes line
MeshRefusal s m bytes (fault.TooManyTriangles i n) = (i ≡ m) × HasTooMany bytes n
MeshRefusal s m bytes (fault.NoTriangles i) = (i ≡ m) × IsMesh bytes []
MeshRefusal s m bytes (fault.OutsideVolume i n e) = (i ≡ m) × IsOutside s m bytes n e
MeshRefusal s m bytes r = ⊥

-- what files give as the meshes from number m on: all meshes in place, or the first refusal
abbrev pub MeshesGive : Settings → ℕ → List (List ℕ) → Result (List (List Tri)) PlateFault → Type 0
MeshesGive s m [] (Ok meshes) = meshes ≡ []
MeshesGive s m [] (Err r) = ⊥
MeshesGive s m (bytes ∷ files) (Ok []) = ⊥
MeshesGive s m (bytes ∷ files) (Ok (tris ∷ meshes)) = IsPlaced s m bytes tris × MeshesGive s (m + 1) files (Ok meshes)
MeshesGive s m (bytes ∷ files) (Err r) =
    MeshRefusal s m bytes r ⊎ (((tris : List Tri) × IsPlaced s m bytes tris) × MeshesGive s (m + 1) files (Err r))
