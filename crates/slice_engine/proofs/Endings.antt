-- How a run ended, and what is told of it.
use Rattle.std.proofs.Common.{ℕ, ◌≡◌, List, Bool, Option, Some, None, ◌⊎◌, inl, inr, Result, Ok, Err, refl, ap, subst, ◌∙◌, arith}
use Rattle.std.specs.Prelude.{◌↔◌, ◌++◌, option_to_list}
use Rattle.std.specs.List.{All}
use Rattle.std.proofs.lemmas.List.Elements.{All-tail}
use Rattle.slice_base.specs.Causes.{Rose, counted}
use Rattle.slice_base.specs.Shapes.{Bytes}
use Rattle.outside.specs.Files.{Files}
use Rattle.outside.specs.Store.{Store}
use Rattle.outside.specs.Output.{Output}
use Rattle.answers.specs.declared.refusal.Refusal.{Refusal}
use Rattle.answers.specs.declared.refusal.Refusal.TheVariants as refusal
use Rattle.cli_words.specs.declared.command.Command.{Command}
use Rattle.cli_words.specs.declared.command.Command.TheVariants.{Slice, Serial, Check, Gen}
use Rattle.cli_words.specs.declared.command.Task.{Task}
use Rattle.cli_words.specs.declared.command.WordFault.{WordFault}
use Rattle.cli_words.specs.declared.command.WordFault.TheVariants as fault
use Rattle.plate_input.specs.Plate.{PlateGives}
use Rattle.plan_types.specs.Jobs.{JobValue}
use Rattle.ring_core.specs.declared.event.Event.{Event}
use Rattle.slice_engine.specs.declared.done.Done.{Done}
use Rattle.slice_engine.specs.declared.writing.Stop.{Stop}
use Rattle.slice_engine.specs.declared.writing.Stop.TheVariants.{Memory, Write}
use Rattle.slice_engine.specs.Jobs.{CommandGives, SamplePlate, word_refusal}
use Rattle.slice_engine.specs.Reads.{HasFailedRead, read_faults}
use Rattle.slice_engine.specs.Inner.Answered.{refusal_in}
use Rattle.slice_engine.specs.Answers.{SaysEnd, Tells, output_of, write_faults}
use Rattle.slice_engine.specs.Inner.Feeding.{Wrote, stop_refusal}
use Rattle.slice_engine.proofs.Plates.{OfPlate, of_plate}

-- a name in front of others, where there is one
pub behind_output : (P : List ℕ → Type 0) (out : Option (List ℕ)) (names : List (List ℕ)) → All P (option_to_list out ++ names) → All P names
behind_output P (Some name) names h = All-tail P name names h
behind_output P None names h = h

-- ---- a file that was not written to its end

-- what is said of the command
pub stopped : (command : Result Command WordFault) (shelf shelf_after : Store) (job : JobValue) (name : Bytes) (before after : Output) (stop : Stop)
    → CommandGives command shelf.files (Ok job) → output_of command ≡ Some name → Wrote (Err stop) job name before after → SaysEnd (Err (stop_refusal stop)) command shelf shelf_after before after
stopped command shelf shelf_after job name before after Write g named w = record { job = job; defined = g; name = name; named = named; broken_off = w }
stopped command shelf shelf_after job name before after Memory g named w = inr (record { job = job; defined = g; name = name; named = named; k = w.0; cut_short = w.1 })

-- no read failed
pub stopped_reads : (stop : Stop) (n : ℕ) → n ≡ read_faults (Some (stop_refusal stop)) n
stopped_reads Write n = refl
stopped_reads Memory n = refl

-- a failed write was counted
pub stopped_writes : (job : JobValue) (name : Bytes) (before after : Output) (stop : Stop) → Wrote (Err stop) job name before after → after.faults ≡ write_faults (Some (stop_refusal stop)) before.faults
stopped_writes job name before after Write w = w.failed_once
stopped_writes job name before after Memory w = w.1.quiet

-- a command that writes no file fails no write
no_name : (name : Bytes) → ◌≡◌ {A = Option Bytes} None (Some name) → ⊥
no_name name e = cc

pub checked_writes : (ended : Result Done Refusal) (task : Task) (shelf shelf_after : Store) (o : Output) → SaysEnd ended (Ok (Check task)) shelf shelf_after o o → o.faults ≡ write_faults (refusal_in ended) o.faults
checked_writes (Ok done) task shelf shelf_after o says = refl
checked_writes (Err refusal.WriteFault) task shelf shelf_after o says = absurd (no_name says.name says.named)
checked_writes (Err r) task shelf shelf_after o says = refl

-- ---- words at fault

-- what plates and samples give is told by no word
gives_plate : (command : Command) (files : Option Files) (r : Refusal) → CommandGives (Ok command) files (Err r) → OfPlate r
gives_plate (Slice task) files r g = of_plate (PlateGives task.items files) r g
gives_plate (Serial task) files r g = of_plate (PlateGives task.items files) r g
gives_plate (Check task) files r g = of_plate (PlateGives task.items files) r g
gives_plate (Gen number name) files r g = of_plate (SamplePlate number) r g

same_refusal : (r s : Refusal) → ◌≡◌ {A = Result JobValue Refusal} (Err r) (Err s) → r ≡ s
same_refusal r s e = cc

gives_bad_word : (command : Result Command WordFault) (files : Option Files) (n : ℕ) → CommandGives command files (Err (refusal.BadWord n)) → command ≡ Err (fault.BadWord n)
gives_bad_word (Ok command) files n g = absurd (gives_plate command files (refusal.BadWord n) g)
gives_bad_word (Err (fault.BadWord m)) files n g = let e = same_refusal (refusal.BadWord n) (refusal.BadWord m) g in cc
gives_bad_word (Err fault.NoInput) files n g = absurd (cc g)
gives_bad_word (Err fault.NoOutput) files n g = absurd (cc g)
gives_bad_word (Err fault.NoMemory) files n g = absurd (cc g)

gives_no_input : (command : Result Command WordFault) (files : Option Files) → CommandGives command files (Err refusal.NoInput) → command ≡ Err fault.NoInput
gives_no_input (Ok command) files g = absurd (gives_plate command files refusal.NoInput g)
gives_no_input (Err (fault.BadWord m)) files g = absurd (cc g)
gives_no_input (Err fault.NoInput) files g = refl
gives_no_input (Err fault.NoOutput) files g = absurd (cc g)
gives_no_input (Err fault.NoMemory) files g = absurd (cc g)

gives_no_output : (command : Result Command WordFault) (files : Option Files) → CommandGives command files (Err refusal.NoOutput) → command ≡ Err fault.NoOutput
gives_no_output (Ok command) files g = absurd (gives_plate command files refusal.NoOutput g)
gives_no_output (Err (fault.BadWord m)) files g = absurd (cc g)
gives_no_output (Err fault.NoInput) files g = absurd (cc g)
gives_no_output (Err fault.NoOutput) files g = refl
gives_no_output (Err fault.NoMemory) files g = absurd (cc g)

-- ---- what was told

same_done : (r s : Refusal) → ◌≡◌ {A = Result Done Refusal} (Err r) (Err s) → r ≡ s
same_done r s e = cc

-- an answer that isn't the console's is how the run ended
pub told_as : (asked : Bool) (journal : List Event) (ended : Result Done Refusal) (r : Refusal) (answer : Option Refusal) (before after : Output) → (r ≡ refusal.ConsoleFault → ⊥) → answer ≡ Some r → Tells ended asked journal answer before after → ended ≡ Err r
told_as asked journal (Ok done) r None before after other is t = absurd (cc is)
told_as asked journal (Ok done) r (Some s) before after other is t = absurd (other (let e = t.0 in cc))
told_as asked journal (Err q) r None before after other is t = absurd t
told_as asked journal (Err q) r (Some s) before after other is t = let e = t.0 in cc

-- a refusal is the answer
pub tells_refusal : (asked : Bool) (journal : List Event) (ended : Result Done Refusal) (r : Refusal) (answer : Option Refusal) (before after : Output) → ended ≡ Err r → Tells ended asked journal answer before after → answer ≡ Some r
tells_refusal asked journal (Ok done) r answer before after is t = absurd (cc is)
tells_refusal asked journal (Err q) r None before after is t = absurd t
tells_refusal asked journal (Err q) r (Some s) before after is t = let e = t.0 in cc

-- the clause of words at fault, for one fault
words_told : (asked : Bool) (journal : List Event) (command : Result Command WordFault) (f : WordFault) (r : Refusal) (ended : Result Done Refusal) (answer : Option Refusal) (shelf shelf_after : Store) (o p before after : Output)
    → word_refusal f ≡ r → (r ≡ refusal.ConsoleFault → ⊥) → (SaysEnd (Err r) command shelf shelf_after o p → command ≡ Err f)
    → SaysEnd ended command shelf shelf_after o p → ((g : WordFault) → command ≡ Err g → ended ≡ Err (word_refusal g)) → Tells ended asked journal answer before after
    → (answer ≡ Some r) ↔ (command ≡ Err f)
words_told asked journal command f r ended answer shelf shelf_after o p before after is other gives says word tells = (
  (λ e. gives (subst (λ (x : Result Done Refusal). SaysEnd x command shelf shelf_after o p) (told_as asked journal ended r answer before after other e tells) says)),
  (λ e. tells_refusal asked journal ended r answer before after (word f e ∙ ap Err is) tells),
)

pub bad_word_told : (asked : Bool) (journal : List Event) (command : Result Command WordFault) (n : ℕ) (ended : Result Done Refusal) (answer : Option Refusal) (shelf shelf_after : Store) (o p before after : Output)
    → SaysEnd ended command shelf shelf_after o p → ((g : WordFault) → command ≡ Err g → ended ≡ Err (word_refusal g)) → Tells ended asked journal answer before after
    → (answer ≡ Some (refusal.BadWord n)) ↔ (command ≡ Err (fault.BadWord n))
bad_word_told asked journal command n ended answer shelf shelf_after o p before after says word tells =
    words_told asked journal command (fault.BadWord n) (refusal.BadWord n) ended answer shelf shelf_after o p before after refl (λ e. cc e) (λ s. gives_bad_word command shelf.files n s.says) says word tells

pub no_input_told : (asked : Bool) (journal : List Event) (command : Result Command WordFault) (ended : Result Done Refusal) (answer : Option Refusal) (shelf shelf_after : Store) (o p before after : Output)
    → SaysEnd ended command shelf shelf_after o p → ((g : WordFault) → command ≡ Err g → ended ≡ Err (word_refusal g)) → Tells ended asked journal answer before after
    → (answer ≡ Some refusal.NoInput) ↔ (command ≡ Err fault.NoInput)
no_input_told asked journal command ended answer shelf shelf_after o p before after says word tells =
    words_told asked journal command fault.NoInput refusal.NoInput ended answer shelf shelf_after o p before after refl (λ e. cc e) (λ s. gives_no_input command shelf.files s.says) says word tells

pub no_output_told : (asked : Bool) (journal : List Event) (command : Result Command WordFault) (ended : Result Done Refusal) (answer : Option Refusal) (shelf shelf_after : Store) (o p before after : Output)
    → SaysEnd ended command shelf shelf_after o p → ((g : WordFault) → command ≡ Err g → ended ≡ Err (word_refusal g)) → Tells ended asked journal answer before after
    → (answer ≡ Some refusal.NoOutput) ↔ (command ≡ Err fault.NoOutput)
no_output_told asked journal command ended answer shelf shelf_after o p before after says word tells =
    words_told asked journal command fault.NoOutput refusal.NoOutput ended answer shelf shelf_after o p before after refl (λ e. cc e) (λ s. gives_no_output command shelf.files s.says) says word tells

-- ---- where a refusal is defined

once_more : (before after : ℕ) → after ≡ counted before → Rose before after
once_more before after once = omega arith

-- a read that failed was counted
pub failed_rose : (command : Result Command WordFault) (name : List ℕ) (before after : Store) → HasFailedRead command name before after → Rose before.faults after.faults
failed_rose (Ok (Slice task)) name before after failed = once_more before.faults after.faults failed.cause
failed_rose (Ok (Serial task)) name before after failed = once_more before.faults after.faults failed.cause
failed_rose (Ok (Check task)) name before after failed = once_more before.faults after.faults failed.cause
failed_rose (Ok (Gen n file)) name before after failed = absurd failed
failed_rose (Err f) name before after failed = absurd failed

no_job : (j : JobValue) (r : Refusal) → ◌≡◌ {A = Result JobValue Refusal} (Ok j) (Err r) → ⊥
no_job j r e = cc

module _ (command : Result Command WordFault) (files : Option Files) (one : (a b : Result JobValue Refusal) → CommandGives command files a → CommandGives command files b → a ≡ b) where
  -- where a refusal is defined and no read failed, the run ended with it, unless memory ran out
  pub ended_refused : (r : Refusal) (ended : Result Done Refusal) (shelf shelf_after : Store) (o p : Output) → shelf.files ≡ files → CommandGives command files (Err r)
      → ((name : List ℕ) → HasFailedRead command name shelf shelf_after → ⊥) → SaysEnd ended command shelf shelf_after o p → (ended ≡ Err r) ⊎ (ended ≡ Err refusal.NoMemory)
  ended_refused r (Ok done) shelf shelf_after o p told g quiet says = absurd (no_job says.job r (one (Ok says.job) (Err r) (subst (λ (f : Option Files). CommandGives command f (Ok says.job)) told says.defined) g))
  ended_refused r (Err refusal.WriteFault) shelf shelf_after o p told g quiet says = absurd (no_job says.job r (one (Ok says.job) (Err r) (subst (λ (f : Option Files). CommandGives command f (Ok says.job)) told says.defined) g))
  ended_refused r (Err refusal.NoMemory) shelf shelf_after o p told g quiet says = inr refl
  ended_refused r (Err (refusal.ReadFault name)) shelf shelf_after o p told g quiet says = absurd (quiet name says.says)
  ended_refused r (Err q) shelf shelf_after o p told g quiet says =
      inl (ap Err (same_refusal q r (one (Err q) (Err r) (subst (λ (f : Option Files). CommandGives command f (Err q)) told says.says) g)))

told_case : (asked : Bool) (journal : List Event) (r : Refusal) (ended : Result Done Refusal) (answer : Option Refusal) (before after : Output) → (ended ≡ Err r) ⊎ (ended ≡ Err refusal.NoMemory) → Tells ended asked journal answer before after
    → (answer ≡ Some r) ⊎ (answer ≡ Some refusal.NoMemory)
told_case asked journal r ended answer before after (inl e) tells = inl (tells_refusal asked journal ended r answer before after e tells)
told_case asked journal r ended answer before after (inr e) tells = inr (tells_refusal asked journal ended refusal.NoMemory answer before after e tells)

-- and that is the answer
pub refused_told : (asked : Bool) (journal : List Event) (command : Result Command WordFault) (files : Option Files) (r : Refusal) (ended : Result Done Refusal) (answer : Option Refusal) (shelf shelf_after : Store) (o p before after : Output)
    → ((a b : Result JobValue Refusal) → CommandGives command files a → CommandGives command files b → a ≡ b) → shelf.files ≡ files → CommandGives command files (Err r)
    → (Rose shelf.faults shelf_after.faults → ⊥) → SaysEnd ended command shelf shelf_after o p → Tells ended asked journal answer before after → (answer ≡ Some r) ⊎ (answer ≡ Some refusal.NoMemory)
refused_told asked journal command files r ended answer shelf shelf_after o p before after one told g quiet says tells =
    let cases : (ended ≡ Err r) ⊎ (ended ≡ Err refusal.NoMemory) = ended_refused command files one r ended shelf shelf_after o p told g (λ name failed. quiet (failed_rose command name shelf shelf_after failed)) says in
    told_case asked journal r ended answer before after cases tells
