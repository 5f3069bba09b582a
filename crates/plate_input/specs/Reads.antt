-- How often a shelf was read, and what a result says of the items and the shelf.
use Rattle.std.specs.Prelude.{ℕ, suc, ◌≡◌, ◌≤◌, List, ◌∷◌, ◌++◌, length, Option, Some, Result, Ok, Err}
use Rattle.slice_base.specs.Causes.{counted, counted_by}
use Rattle.outside.specs.Store.{Store}
use Rattle.cli_words.specs.declared.command.Item.{Item}
use Rattle.cli_words.specs.Command.{item_names}
use Rattle.plate_input.specs.declared.faults.PlateFault.{PlateFault}
use Rattle.plate_input.specs.declared.faults.PlateFault.TheVariants as fault
use Rattle.plate_input.specs.declared.plates.Plate.{Plate}
use Rattle.plate_input.specs.Reading.{AreFiles}
use Rattle.plate_input.specs.Plate.{PlateGives}

-- the file of this name was read last, behind all those that are named before it
pub record EndsAt (items : List Item) (name : List ℕ) (before after : Store) : Type 0 where
  pub front : List (List ℕ)
  pub rest : List (List ℕ)
  pub contents : List (List ℕ)
  pub names : item_names items ≡ front ++ name ∷ rest
  pub are : AreFiles before.files front contents
  pub reads : after.reads ≡ counted_by (suc (length front)) before.reads

-- the read of this file failed, and was the last
pub record FailedRead (items : List Item) (name : List ℕ) (before after : Store) : Type 0 where
  pub ends : EndsAt items name before after
  pub last_failed : after.last_failed ≡ Some name
  pub cause : after.faults ≡ counted before.faults

-- no more reads than names
pub record ReadsSome (items : List Item) (before after : Store) : Type 0 where
  pub count : ℕ
  pub few : count ≤ length (item_names items)
  pub reads : after.reads ≡ counted_by count before.reads

-- one read for each name
abbrev pub ReadsAll : List Item → Store → Store → Type 0
ReadsAll items before after = after.reads ≡ counted_by (length (item_names items)) before.reads

-- how many reads there were before a fault: all, unless a file was the last, or memory ran out
abbrev pub ReadsBefore : PlateFault → List Item → Store → Store → Type 0
ReadsBefore (fault.ReadFault name) items before after = EndsAt items name before after
ReadsBefore (fault.TooLong name) items before after = EndsAt items name before after
ReadsBefore fault.NoMemory items before after = ReadsSome items before after
ReadsBefore r items before after = ReadsAll items before after

-- how many reads there were before a result
abbrev pub ReadsFiles : {T : Type 0} → Result T PlateFault → List Item → Store → Store → Type 0
ReadsFiles (Ok a) items before after = ReadsAll items before after
ReadsFiles (Err r) items before after = ReadsBefore r items before after

-- a shelf's count of faults after a fault: a failed read counts one, and nothing else does
abbrev pub refused_faults : PlateFault → ℕ → ℕ
refused_faults (fault.ReadFault name) n = counted n
refused_faults r n = n

-- and after a result
abbrev pub faults_after_reads : {T : Type 0} → Result T PlateFault → ℕ → ℕ
faults_after_reads (Ok a) n = n
faults_after_reads (Err r) n = refused_faults r n

-- the name of a shelf's last failed read after a fault: that of the read that failed, or as before
abbrev pub refused_last_failed : PlateFault → Option (List ℕ) → Option (List ℕ)
refused_last_failed (fault.ReadFault name) before = Some name
refused_last_failed r before = before

-- and after a result
abbrev pub last_failed_after_reads : {T : Type 0} → Result T PlateFault → Option (List ℕ) → Option (List ℕ)
last_failed_after_reads (Ok a) before = before
last_failed_after_reads (Err r) before = refused_last_failed r before

-- the result is this one, unless a read failed or memory ran out
abbrev pub IsUnlessFailed : {T : Type 0} → Result T PlateFault → Result T PlateFault → Type 0
IsUnlessFailed wanted (Err (fault.ReadFault name)) = Unit {0}
IsUnlessFailed wanted (Err fault.NoMemory) = Unit {0}
IsUnlessFailed wanted result = result ≡ wanted

-- what a result says of the items and the shelf
abbrev pub SaysPlate : Result Plate PlateFault → List Item → Store → Store → Type 0
SaysPlate (Err (fault.ReadFault name)) items before after = FailedRead items name before after
SaysPlate (Err fault.NoMemory) items before after = Unit {0}
SaysPlate a items before after = PlateGives items before.files a
