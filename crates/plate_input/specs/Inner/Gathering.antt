-- What is kept of the items so far.
use Rattle.std.specs.Prelude.{ℕ, ◌≡◌, ◌≤◌, ◌⊎◌, List, [], ◌∷◌, ◌++◌, length, Option, Some, None, Result, Ok, Err}
use Rattle.std.specs.List.{All}
use Rattle.slice_base.specs.Causes.{counted}
use Rattle.slice_base.specs.Limits.{max_file_bytes}
use Rattle.settings_core.specs.declared.pairs.Pair.{Pair}
use Rattle.settings_core.specs.File.{file_pairs}
use Rattle.outside.specs.Files.{Files, IsFile, IsTooLong}
use Rattle.outside.specs.Store.{Store}
use Rattle.cli_words.specs.declared.command.Item.{Item}
use Rattle.cli_words.specs.declared.command.Item.TheVariants as item
use Rattle.cli_words.specs.Command.{item_names, item_extruders}
use Rattle.plate_input.specs.declared.faults.PlateFault.{PlateFault}
use Rattle.plate_input.specs.declared.faults.PlateFault.TheVariants as fault
use Rattle.plate_input.specs.declared.gathered.Gathered.{Gathered}
use Rattle.plate_input.specs.Reading.{AreFiles, pairs_of, mesh_bytes}
use Rattle.plate_input.specs.Reads.{EndsAt, FailedRead, ReadsSome}

-- one file was read, of this name and with these bytes, which are not too many
pub record IsRead (name : List ℕ) (before after : Store) (bytes : List ℕ) : Type 0 where
  pub file : IsFile before.files name bytes
  pub short : length bytes ≤ max_file_bytes
  pub reads : after.reads ≡ counted before.reads

-- the read of this file failed
pub record FailedOnce (name : List ℕ) (before after : Store) : Type 0 where
  pub last_failed : after.last_failed ≡ Some name
  pub reads : after.reads ≡ counted before.reads

-- this file is too long
pub record TooLongOnce (name : List ℕ) (before after : Store) : Type 0 where
  pub too_long : IsTooLong before.files name max_file_bytes
  pub reads : after.reads ≡ counted before.reads

-- a file was read, or none
abbrev pub ReadsOneAtMost : Store → Store → Type 0
ReadsOneAtMost before after = (after.reads ≡ before.reads) ⊎ (after.reads ≡ counted before.reads)

-- why a file wasn't read
abbrev pub FileRefusal : PlateFault → List ℕ → Store → Store → Type 0
FileRefusal (fault.ReadFault n) name before after = (n ≡ name) × FailedOnce name before after
FileRefusal (fault.TooLong n) name before after = (n ≡ name) × TooLongOnce name before after
FileRefusal fault.NoMemory name before after = ReadsOneAtMost before after
FileRefusal r name before after = ⊥

-- the first of two names
abbrev pub first_name : Option (List ℕ) → List ℕ → Option (List ℕ)
first_name None name = Some name
first_name (Some first) name = Some first

-- with these pairs behind those that were kept
abbrev pub with_pairs : List Pair → Gathered → Gathered
with_pairs ps g = record { pairs = g.pairs ++ ps; not_json = g.not_json; extruders = g.extruders; meshes = g.meshes }

-- with a settings file of this name, by its pairs where it is one
abbrev pub with_settings : List ℕ → Option (List Pair) → Gathered → Gathered
with_settings name (Some ps) g = with_pairs ps g
with_settings name None g = record {
  pairs = g.pairs;
  not_json = first_name g.not_json name;
  extruders = g.extruders;
  meshes = g.meshes;
}

-- with a mesh of this extruder, by the bytes of its file
abbrev pub with_mesh : ℕ → List ℕ → Gathered → Gathered
with_mesh e bytes g = record {
  pairs = g.pairs;
  not_json = g.not_json;
  extruders = g.extruders ++ e ∷ [];
  meshes = g.meshes ++ bytes ∷ [];
}

-- what is kept once an item is taken, with the bytes of its file where it has one
abbrev pub taken : Item → List ℕ → Gathered → Gathered
taken (item.Pair p) bytes g = with_pairs (p ∷ []) g
taken (item.Settings name) bytes g = with_settings name (file_pairs bytes) g
taken (item.Mesh name e) bytes g = with_mesh e bytes g

-- an item was taken, with the file of this name
pub record TookFile (i : Item) (name : List ℕ) (old new : Gathered) (before after : Store) : Type 0 where
  pub bytes : List ℕ
  pub read : IsRead name before after bytes
  pub kept : new ≡ taken i bytes old

-- an item was taken
abbrev pub Took : Item → Gathered → Gathered → Store → Store → Type 0
Took (item.Pair p) old new before after = (after ≡ before) × (new ≡ taken (item.Pair p) [] old)
Took (item.Settings name) old new before after = TookFile (item.Settings name) name old new before after
Took (item.Mesh name e) old new before after = TookFile (item.Mesh name e) name old new before after

-- an item wasn't taken: its file wasn't read, or memory ran out
abbrev pub Refused : PlateFault → Item → Store → Store → Type 0
Refused r (item.Pair p) before after = (r ≡ fault.NoMemory) × (after ≡ before)
Refused r (item.Settings name) before after = FileRefusal r name before after
Refused r (item.Mesh name e) before after = FileRefusal r name before after

-- all pairs, or the first settings file that isn't one
abbrev pub outcome : List Pair → Option (List ℕ) → Result (List Pair) (List ℕ)
outcome pairs None = Ok pairs
outcome pairs (Some name) = Err name

-- all files were read, and this was kept of them
pub record HasGathered (items : List Item) (files : Option Files) (g : Gathered) : Type 0 where
  pub contents : List (List ℕ)
  pub are : AreFiles files (item_names items) contents
  pub pairs : pairs_of items contents ≡ outcome g.pairs g.not_json
  pub meshes : g.meshes ≡ mesh_bytes items contents
  pub extruders : g.extruders ≡ item_extruders items
  pub as_many : length g.meshes ≡ length g.extruders
  pub short : All (λ bytes. length bytes ≤ max_file_bytes) g.meshes

-- why not all files were read
abbrev pub GatherRefusal : PlateFault → List Item → Store → Store → Type 0
GatherRefusal (fault.ReadFault name) items before after = FailedRead items name before after
GatherRefusal (fault.TooLong name) items before after =
    EndsAt items name before after × IsTooLong before.files name max_file_bytes
GatherRefusal fault.NoMemory items before after = ReadsSome items before after
GatherRefusal r items before after = ⊥
