-- What settings and meshes make of a plate.
use Rattle.std.proofs.Common.{ℕ, ◌≡◌, ◌+◌, List, [], ◌∷◌, inl, inr, None, Result, Ok, Err, refl, ap, subst}
use Rattle.slice_base.specs.declared.points.Tri.{Tri}
use Rattle.settings_core.specs.declared.pairs.Pair.{Pair}
use Rattle.settings_core.specs.declared.resolved.Settings.{Settings}
use Rattle.settings_core.specs.Resolve.{settings_of, fault_of}
use Rattle.plate_input.specs.declared.faults.PlateFault.{PlateFault}
use Rattle.plate_input.specs.declared.faults.PlateFault.TheVariants as fault
use Rattle.plate_input.specs.declared.plates.Plate.{Plate}
use Rattle.plate_input.specs.Meshes.{MeshRefusal, MeshesGive}
use Rattle.plate_input.specs.Plate.{HasBadMesh, MakesPlate, UnlessNoMemory}
use Rattle.plate_input.specs.Inner.Stages.{SettingRefusal}

abbrev Plates : Type 0
Plates = Result Plate PlateFault

abbrev Rows : Type 0
Rows = Result (List (List Tri)) PlateFault

pub by_setting : (pairs : List Pair) (es : List ℕ) (files : List (List ℕ)) (r : PlateFault) → SettingRefusal r pairs es → UnlessNoMemory (MakesPlate pairs es files) (Err r)
by_setting pairs es files (fault.BadValue scope key) h = inr h
by_setting pairs es files (fault.OutOfRange scope key) h = inr h
by_setting pairs es files (fault.UnknownExtruder m) h = inr h
by_setting pairs es files fault.NoMemory h = inl refl
by_setting pairs es files r h = absurd h

-- a mesh is refused by one of four
abbrev pub IsOfMesh : PlateFault → Type 0
IsOfMesh (fault.BadStl m n) = Unit {0}
IsOfMesh (fault.NoTriangles m) = Unit {0}
IsOfMesh (fault.TooManyTriangles m n) = Unit {0}
IsOfMesh (fault.OutsideVolume m n e) = Unit {0}
IsOfMesh r = ⊥

of_mesh : (s : Settings) (m : ℕ) (bytes : List ℕ) (r : PlateFault) → MeshRefusal s m bytes r → IsOfMesh r
of_mesh s m bytes (fault.BadStl i n) h = tt
of_mesh s m bytes (fault.NoTriangles i) h = tt
of_mesh s m bytes (fault.TooManyTriangles i n) h = tt
of_mesh s m bytes (fault.OutsideVolume i n e) h = tt
of_mesh s m bytes r h = absurd h

of_meshes : (s : Settings) (m : ℕ) (files : List (List ℕ)) (r : PlateFault) → MeshesGive s m files (Err r) → IsOfMesh r
of_meshes s m [] r h = absurd h
of_meshes s m (bytes ∷ files) r (inl h) = of_mesh s m bytes r h
of_meshes s m (bytes ∷ files) r (inr h) = of_meshes s (m + 1) files r h.1

bad_mesh : (pairs : List Pair) (es : List ℕ) (files : List (List ℕ)) (r : PlateFault) → IsOfMesh r → HasBadMesh pairs es files r → MakesPlate pairs es files (Err r)
bad_mesh pairs es files (fault.BadStl m n) k h = h
bad_mesh pairs es files (fault.NoTriangles m) k h = h
bad_mesh pairs es files (fault.TooManyTriangles m n) k h = h
bad_mesh pairs es files (fault.OutsideVolume m n e) k h = h
bad_mesh pairs es files r k h = absurd k

short_too : (q : PlateFault) → ◌≡◌ {A = Rows} (Err q) (Err fault.NoMemory) → ◌≡◌ {A = Plates} (Err q) (Err fault.NoMemory)
short_too q e = let same : q ≡ fault.NoMemory = cc in ap Err same

refused_mesh : (pairs : List Pair) (es : List ℕ) (files : List (List ℕ)) (q : PlateFault) → fault_of pairs es ≡ None → UnlessNoMemory (MeshesGive (settings_of pairs es) 0 files) (Err q) → UnlessNoMemory (MakesPlate pairs es files) (Err q)
refused_mesh pairs es files q n (inl e) = inl (short_too q e)
refused_mesh pairs es files q n (inr h) = inr (bad_mesh pairs es files q (of_meshes (settings_of pairs es) 0 files q h) (record { faultless = n; refused = h }))

pub by_mesh : (pairs : List Pair) (es : List ℕ) (files : List (List ℕ)) (s : Settings) (q : PlateFault) → fault_of pairs es ≡ None → s ≡ settings_of pairs es → UnlessNoMemory (MeshesGive s 0 files) (Err q) → UnlessNoMemory (MakesPlate pairs es files) (Err q)
by_mesh pairs es files s q n e a = refused_mesh pairs es files q n (subst (λ (x : Settings). UnlessNoMemory (MeshesGive x 0 files) (Err q)) e a)

pub by_plate : (pairs : List Pair) (es : List ℕ) (files : List (List ℕ)) (s : Settings) (ms : List (List Tri)) → fault_of pairs es ≡ None → s ≡ settings_of pairs es → UnlessNoMemory (MeshesGive s 0 files) (Ok ms) → UnlessNoMemory (MakesPlate pairs es files) (Ok (record { settings = s; meshes = ms }))
by_plate pairs es files s ms n e (inl short) = absurd (cc)
by_plate pairs es files s ms n e (inr h) = inr (record { faultless = n; settings = e; meshes = h })
