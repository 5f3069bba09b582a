-- What the files of items make of an answer.
use Rattle.std.proofs.Common.{ℕ, ◌≡◌, ◌<◌, ◌≤◌, List, length, inl, inr, Option, Some, None, Result, Ok, Err, arith, sym, subst}
use Rattle.std.specs.List.{All}
use Rattle.std.proofs.lemmas.List.Elements.{All-same}
use Rattle.settings_core.specs.declared.pairs.Pair.{Pair}
use Rattle.outside.specs.Files.{Files}
use Rattle.outside.specs.Store.{Store}
use Rattle.cli_words.specs.declared.command.Item.{Item}
use Rattle.cli_words.specs.declared.command.Task.{Task}
use Rattle.cli_words.specs.Command.{item_names, item_extruders, IsTask}
use Rattle.plate_input.specs.declared.faults.PlateFault.{PlateFault}
use Rattle.plate_input.specs.declared.faults.PlateFault.TheVariants as fault
use Rattle.plate_input.specs.declared.plates.Plate.{Plate}
use Rattle.plate_input.specs.declared.gathered.Gathered.{Gathered}
use Rattle.plate_input.specs.Reading.{AreFiles, FirstNotJson, pairs_of, mesh_bytes}
use Rattle.plate_input.specs.Inner.Gathering.{outcome, HasGathered, GatherRefusal}
use Rattle.plate_input.specs.Plate.{MakesPlate, GivesSettled, PlateGives, UnlessNoMemory}
use Rattle.plate_input.specs.Inner.Stages.{KeptGives}
use Rattle.plate_input.specs.Reads.{SaysPlate, ReadsAll, ReadsFiles, IsUnlessFailed, faults_after_reads, last_failed_after_reads}

abbrev Names : Type 0
Names = List (List ℕ)

abbrev Plates : Type 0
Plates = Result Plate PlateFault

-- what is kept of files is what is defined
settled_says : (ps : List Pair) (es : List ℕ) (ms : Names) (items : List Item) (before after : Store) (a : Plates) → MakesPlate ps es ms a → GivesSettled items before.files a → SaysPlate a items before after
settled_says ps es ms items before after (Ok p) s d = d
settled_says ps es ms items before after (Err (fault.BadValue scope key)) s d = d
settled_says ps es ms items before after (Err (fault.OutOfRange scope key)) s d = d
settled_says ps es ms items before after (Err (fault.UnknownExtruder m)) s d = d
settled_says ps es ms items before after (Err (fault.BadStl m n)) s d = d
settled_says ps es ms items before after (Err (fault.NoTriangles m)) s d = d
settled_says ps es ms items before after (Err (fault.TooManyTriangles m n)) s d = d
settled_says ps es ms items before after (Err (fault.OutsideVolume m n e)) s d = d
settled_says ps es ms items before after (Err r) s d = absurd s

kept_says : (items : List Item) (before after : Store) (ps : List Pair) (o : Option (List ℕ)) (contents : Names) (es : List ℕ) (ms : Names) (a : Plates) → AreFiles before.files (item_names items) contents → pairs_of items contents ≡ outcome ps o → es ≡ item_extruders items → ms ≡ mesh_bytes items contents → KeptGives ps o es ms a → SaysPlate a items before after
kept_says items before after ps None contents es ms a are given e f h =
    let settled : MakesPlate ps (item_extruders items) ms a = subst (λ xs. MakesPlate ps xs ms a) e h in
    settled_says ps es ms items before after a h (record {
      read = record { contents = contents; are = are; pairs = ps; given = given };
      settled = subst (λ xs. MakesPlate ps (item_extruders items) xs a) f settled;
    })
kept_says items before after ps (Some name) contents es ms a are given e f h =
    let json : FirstNotJson items before.files name = record { contents = contents; are = are; not_json = given } in
    subst (λ x. SaysPlate x items before after) (sym h) json

pub finished_says : (items : List Item) (before after : Store) (g : Gathered) (a : Plates) → HasGathered items before.files g → UnlessNoMemory (KeptGives g.pairs g.not_json g.extruders g.meshes) a → SaysPlate a items before after
finished_says items before after g a h (inl e) = subst (λ x. SaysPlate x items before after) (sym e) tt
finished_says items before after g a h (inr k) = kept_says items before after g.pairs g.not_json h.contents g.extruders g.meshes a h.are h.pairs h.extruders h.meshes k

-- an answer of which no file was the last, and no read failed
abbrev IsOfContent : Plates → Type 0
IsOfContent (Err (fault.ReadFault name)) = ⊥
IsOfContent (Err (fault.TooLong name)) = ⊥
IsOfContent a = Unit {0}

settled_content : (ps : List Pair) (es : List ℕ) (ms : Names) (a : Plates) → MakesPlate ps es ms a → IsOfContent a
settled_content ps es ms (Err (fault.ReadFault name)) s = s
settled_content ps es ms (Err (fault.TooLong name)) s = s
settled_content ps es ms a s = tt

kept_content : (ps : List Pair) (o : Option (List ℕ)) (es : List ℕ) (ms : Names) (a : Plates) → KeptGives ps o es ms a → IsOfContent a
kept_content ps None es ms a h = settled_content ps es ms a h
kept_content ps (Some name) es ms a h = subst IsOfContent (sym h) tt

finished_content : (g : Gathered) (a : Plates) → UnlessNoMemory (KeptGives g.pairs g.not_json g.extruders g.meshes) a → IsOfContent a
finished_content g a (inl e) = subst IsOfContent (sym e) tt
finished_content g a (inr k) = kept_content g.pairs g.not_json g.extruders g.meshes a k

content_reads : (items : List Item) (before after : Store) (a : Plates) → IsOfContent a → ReadsAll items before after → ReadsFiles a items before after
content_reads items before after (Err (fault.ReadFault name)) c e = absurd c
content_reads items before after (Err (fault.TooLong name)) c e = absurd c
content_reads items before after (Err fault.NoMemory) c e = record { count = length (item_names items); few = omega arith; reads = e }
content_reads items before after a c e = e

content_faults : (n m : ℕ) (a : Plates) → IsOfContent a → m ≡ n → m ≡ faults_after_reads a n
content_faults n m (Err (fault.ReadFault name)) c e = absurd c
content_faults n m a c e = e

content_last : (n m : Option (List ℕ)) (a : Plates) → IsOfContent a → m ≡ n → m ≡ last_failed_after_reads a n
content_last n m (Err (fault.ReadFault name)) c e = absurd c
content_last n m a c e = e

pub finished_reads : (items : List Item) (before after : Store) (g : Gathered) (a : Plates) → UnlessNoMemory (KeptGives g.pairs g.not_json g.extruders g.meshes) a → ReadsAll items before after → ReadsFiles a items before after
finished_reads items before after g a h e = content_reads items before after a (finished_content g a h) e

pub finished_faults : (n m : ℕ) (g : Gathered) (a : Plates) → UnlessNoMemory (KeptGives g.pairs g.not_json g.extruders g.meshes) a → m ≡ n → m ≡ faults_after_reads a n
finished_faults n m g a h e = content_faults n m a (finished_content g a h) e

pub finished_last : (n m : Option (List ℕ)) (g : Gathered) (a : Plates) → UnlessNoMemory (KeptGives g.pairs g.not_json g.extruders g.meshes) a → m ≡ n → m ≡ last_failed_after_reads a n
finished_last n m g a h e = content_last n m a (finished_content g a h) e

-- why not all files were read
pub gather_says : (items : List Item) (before after : Store) (r : PlateFault) → GatherRefusal r items before after → SaysPlate (Err r) items before after
gather_says items before after (fault.ReadFault name) h = h
gather_says items before after (fault.TooLong name) h = record { front = h.0.front; rest = h.0.rest; contents = h.0.contents; names = h.0.names; are = h.0.are; too_long = h.1 }
gather_says items before after fault.NoMemory h = tt
gather_says items before after r h = absurd h

-- what told files define is the answer
pub one_of : (items : List Item) (before after : Store) → ((items : List Item) (files : Files) (a b : Plates) → PlateGives items (Some files) a → PlateGives items (Some files) b → a ≡ b)
    → (r : Plates) → SaysPlate r items before after → (files : Files) (a : Plates) → before.files ≡ Some files → PlateGives items (Some files) a → IsUnlessFailed a r
one_of items before after one (Err (fault.ReadFault name)) s files a told d = tt
one_of items before after one (Err fault.NoMemory) s files a told d = tt
one_of items before after one r s files a told d = one items files r a (subst (λ fs. PlateGives items fs r) told s) d

-- a task's extruders, as they were gathered
pub few_extruders : (t : Task) (files : Option Files) (g : Gathered) → IsTask t → HasGathered t.items files g → length g.extruders ≤ 16
few_extruders t files g k h = subst (λ (es : List ℕ). length es ≤ 16) (sym h.extruders) k.few

pub some_extruders : (t : Task) (files : Option Files) (g : Gathered) → IsTask t → HasGathered t.items files g → 0 < length g.extruders
some_extruders t files g k h = subst (λ (es : List ℕ). 0 < length es) (sym h.extruders) k.some

pub extruders_below_eight : (t : Task) (files : Option Files) (g : Gathered) → IsTask t → HasGathered t.items files g → All (λ e. e < 8) g.extruders
extruders_below_eight t files g k h = All-same (λ e. e < 8) g.extruders (item_extruders t.items) h.extruders k.below_eight
