-- A mesh that was read, and moved to its place.
use Rattle.std.proofs.Common.{ℕ, ◌≡◌, List, ◌++◌, length, take, drop, inl, inr, Some, None, Ok, Err, refl}
use Rattle.std.proofs.Math.Seq.{take-append_seam}
use Rattle.slice_base.specs.declared.points.Tri.{Tri}
use Rattle.settings_core.specs.declared.resolved.Settings.{Settings}
use Rattle.mesh_placing.specs.Places.{placed}
use Rattle.mesh_placing.specs.declared.placing.Excess.{Excess}
use Rattle.mesh_placing.specs.Extents.{extent_of}
use Rattle.mesh_placing.specs.Volume.{excess_of, first_outside}
use Rattle.plate_input.specs.declared.faults.PlateFault.{PlateFault}
use Rattle.plate_input.specs.declared.faults.PlateFault.TheVariants as fault
use Rattle.plate_input.specs.Inner.Stages.{ReadRefusal, TrianglesGive, MeshGives}
use Rattle.plate_input.specs.Meshes.{MeshRefusal}
use Rattle.plate_input.specs.Plate.{UnlessNoMemory}

refused_mesh : (s : Settings) (m : ℕ) (bytes : List ℕ) (r : PlateFault) → ReadRefusal m bytes r → MeshRefusal s m bytes r
refused_mesh s m bytes (fault.BadStl i line) h = h
refused_mesh s m bytes (fault.TooManyTriangles i n) h = h
refused_mesh s m bytes (fault.NoTriangles i) h = h
refused_mesh s m bytes r h = absurd h

pub mesh_unread : (s : Settings) (m : ℕ) (bytes : List ℕ) (q : PlateFault) → UnlessNoMemory (TrianglesGive m bytes) (Err q) → UnlessNoMemory (MeshGives s m bytes) (Err q)
mesh_unread s m bytes q (inl e) = inl e
mesh_unread s m bytes q (inr h) = inr (refused_mesh s m bytes q h)

pub mesh_outside : (s : Settings) (m n : ℕ) (x : Excess) (bytes : List ℕ) (ts : List Tri) → UnlessNoMemory (TrianglesGive m bytes) (Ok ts) → first_outside s (placed s m ts) ≡ Some n → x ≡ excess_of s (extent_of (placed s m ts)) → UnlessNoMemory (MeshGives s m bytes) (Err (fault.OutsideVolume m n x))
mesh_outside s m n x bytes ts (inl e) out far = absurd (cc)
mesh_outside s m n x bytes ts (inr h) out far = inr (refl, record { read = ts; mesh = h.0; outside = out; furthest = far })

pub mesh_placed : (s : Settings) (m : ℕ) (bytes : List ℕ) (ts us : List Tri) → UnlessNoMemory (TrianglesGive m bytes) (Ok ts) → first_outside s (placed s m ts) ≡ None → us ≡ placed s m ts → UnlessNoMemory (MeshGives s m bytes) (Ok us)
mesh_placed s m bytes ts us (inl e) none is = absurd (cc)
mesh_placed s m bytes ts us (inr h) none is = inr (record { read = ts; mesh = h.0; some = h.1; inside = none; in_place = is })

-- a list that was written over by one as long
pub written : (n : ℕ) (new old : List Tri) → length new ≡ n → take n (new ++ drop (length new) old) ≡ new
written n new old e = rw (← e) (take-append_seam new (drop (length new) old))
