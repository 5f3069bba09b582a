-- What items and files define: a plate, or the first refusal.
use Rattle.std.specs.Prelude.{ℕ, ◌≡◌, List, ◌⊎◌, Option, Some, None, Result, Ok, Err}
use Rattle.std.specs.List.{slice_get}
use Rattle.settings_core.specs.declared.pairs.Scope.{Scope}
use Rattle.settings_core.specs.declared.pairs.Pair.{Pair}
use Rattle.settings_core.specs.declared.fault.SettingFault.{SettingFault}
use Rattle.settings_core.specs.declared.fault.SettingFault.TheVariants as pair_fault
use Rattle.settings_core.specs.Resolve.{settings_of, fault_of}
use Rattle.outside.specs.Files.{Files}
use Rattle.cli_words.specs.declared.command.Item.{Item}
use Rattle.cli_words.specs.Command.{item_extruders}
use Rattle.plate_input.specs.declared.faults.PlateFault.{PlateFault}
use Rattle.plate_input.specs.declared.faults.PlateFault.TheVariants as fault
use Rattle.plate_input.specs.declared.plates.Plate.{Plate}
use Rattle.plate_input.specs.Reading.{HasPairs, FirstTooLong, FirstNotJson, mesh_bytes}
use Rattle.plate_input.specs.Meshes.{MeshesGive}

-- pairs without fault give its settings, and the meshes' files its meshes
pub record IsPlate (pairs : List Pair) (extruders : List ℕ) (files : List (List ℕ)) (plate : Plate) : Type 0 where
  pub faultless : fault_of pairs extruders ≡ None
  pub settings : plate.settings ≡ settings_of pairs extruders
  pub meshes : MeshesGive plate.settings 0 files (Ok plate.meshes)

-- the first fault of pairs is this one, of the pair of that index, which has this scope and key
pub record HasFaultyPair (pairs : List Pair) (extruders : List ℕ) (kind : ℕ → SettingFault) (scope : Scope)
    (key : List ℕ) : Type 0 where
  pub index : ℕ
  pub pair : Pair
  pub at_fault : fault_of pairs extruders ≡ Some (kind index)
  pub stands : slice_get pairs index ≡ Some pair
  pub its_scope : scope ≡ pair.scope
  pub its_key : key ≡ pair.key

-- pairs without fault give settings, and this is why the first mesh at fault is refused
pub record HasBadMesh (pairs : List Pair) (extruders : List ℕ) (files : List (List ℕ)) (r : PlateFault) : Type 0 where
  pub faultless : fault_of pairs extruders ≡ None
  pub refused : MeshesGive (settings_of pairs extruders) 0 files (Err r)

-- what pairs, the extruders given with the meshes, and the meshes' files define
abbrev pub MakesPlate : List Pair → List ℕ → List (List ℕ) → Result Plate PlateFault → Type 0
MakesPlate pairs es files (Ok plate) = IsPlate pairs es files plate
MakesPlate pairs es files (Err (fault.BadValue scope key)) = HasFaultyPair pairs es pair_fault.BadValue scope key
MakesPlate pairs es files (Err (fault.OutOfRange scope key)) = HasFaultyPair pairs es pair_fault.OutOfRange scope key
MakesPlate pairs es files (Err (fault.UnknownExtruder mesh)) =
    fault_of pairs es ≡ Some (pair_fault.UnknownExtruder mesh)
MakesPlate pairs es files (Err (fault.BadStl mesh line)) = HasBadMesh pairs es files (fault.BadStl mesh line)
MakesPlate pairs es files (Err (fault.TooManyTriangles mesh n)) =
    HasBadMesh pairs es files (fault.TooManyTriangles mesh n)
MakesPlate pairs es files (Err (fault.NoTriangles mesh)) = HasBadMesh pairs es files (fault.NoTriangles mesh)
MakesPlate pairs es files (Err (fault.OutsideVolume mesh n e)) =
    HasBadMesh pairs es files (fault.OutsideVolume mesh n e)
MakesPlate pairs es files (Err r) = ⊥

-- what items define whose files are all there, and whose settings files are such
pub record GivesSettled (items : List Item) (files : Option Files) (a : Result Plate PlateFault) : Type 0 where
  pub read : HasPairs items files
  pub settled : MakesPlate read.pairs (item_extruders items) (mesh_bytes items read.contents) a

-- What items and files define: a plate, or the first refusal. The files come first, in the order of the
-- items, then what the settings files are, then the settings, then mesh by mesh. No fault of a device
-- and no want of memory is defined.
abbrev pub PlateGives : List Item → Option Files → Result Plate PlateFault → Type 0
PlateGives items files (Err (fault.TooLong name)) = FirstTooLong items files name
PlateGives items files (Err (fault.NotJson name)) = FirstNotJson items files name
PlateGives items files a = GivesSettled items files a

-- a result is what is meant, or memory ran out
abbrev pub UnlessNoMemory : {T : Type 0} → (Result T PlateFault → Type 0) → Result T PlateFault → Type 0
UnlessNoMemory Means result = (result ≡ Err fault.NoMemory) ⊎ Means result
