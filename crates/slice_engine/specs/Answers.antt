-- What an answer says of the shelf, the output and the console.
use Rattle.std.specs.Prelude.{ℕ, ◌≡◌, ◌⊎◌, Bool, false, cond, List, [], ◌++◌, length, Option, Some, None, Result, Ok, Err}
use Rattle.slice_base.specs.Causes.{counted}
use Rattle.slice_base.specs.Shapes.{Bytes}
use Rattle.outside.specs.Files.{Files}
use Rattle.outside.specs.Store.{Store}
use Rattle.outside.specs.Output.{Output, Put, PutFront}
use Rattle.answers.specs.declared.refusal.Refusal.{Refusal}
use Rattle.answers.specs.declared.refusal.Refusal.TheVariants as refusal
use Rattle.answers.specs.Lines.{refusal_line}
use Rattle.cli_words.specs.declared.command.Command.{Command}
use Rattle.cli_words.specs.declared.command.Command.TheVariants.{Slice, Serial, Check, Gen}
use Rattle.cli_words.specs.declared.command.Task.{Task}
use Rattle.cli_words.specs.declared.command.WordFault.{WordFault}
use Rattle.cli_words.specs.Command.{command_of}
use Rattle.plan_types.specs.Jobs.{JobValue}
use Rattle.plan_buffer.specs.Accepted.{Finished}
use Rattle.ring_core.specs.declared.event.Event.{Event}
use Rattle.slice_engine.specs.declared.done.Done.{Done}
use Rattle.slice_engine.specs.Jobs.{CommandGives}
use Rattle.slice_engine.specs.Reads.{SaysDefined, HasFailedRead}
use Rattle.slice_engine.specs.Files.{job_file, BrokenOff, CutShort}
use Rattle.slice_engine.specs.Done.{IsDone, done_text, journal_text}
use Rattle.slice_engine.specs.Journals.{IsFullRun, RanToFailure, RanOutOfMemory, CutShortWide}

-- the name of the file that a command writes, where it writes one
abbrev pub output_of : Result Command WordFault → Option Bytes
output_of (Ok (Slice task)) = task.out
output_of (Ok (Serial task)) = task.out
output_of (Ok (Check task)) = None
output_of (Ok (Gen number name)) = Some name
output_of (Err f) = None

-- the sink's count of faults after a run: a failed write counts one, and nothing else does
abbrev pub write_faults : Option Refusal → ℕ → ℕ
write_faults (Some refusal.WriteFault) before = counted before
write_faults answer before = before

-- the same of a run of many workers; where memory ran out in a slice, a write of another worker may have failed too
abbrev pub WriteFaultsWide : Option Refusal → ℕ → ℕ → Type 0
WriteFaultsWide (Some refusal.WriteFault) before after = after ≡ counted before
WriteFaultsWide (Some refusal.NoMemory) before after = (after ≡ before) ⊎ (after ≡ counted before)
WriteFaultsWide answer before after = after ≡ before

-- ---- the output

-- the output holds exactly the file under its name, or, of a command that writes none, is as before
abbrev pub HoldsFile : Option Bytes → Bytes → Output → Output → Type 0
HoldsFile (Some name) file before after = Finished name file before after
HoldsFile None file before after = after ≡ before

-- the command was done: its job is defined, and the output holds exactly the file
pub record DidCommand (command : Result Command WordFault) (files : Option Files) (done : Done) (before after : Output)
    : Type 0 where
  pub job : JobValue
  pub defined : CommandGives command files (Ok job)
  pub is_done : IsDone command job done
  pub holds : HoldsFile (output_of command) (job_file job) before after

-- the output failed while the file of the command's job was written
pub record FailedToWrite (command : Result Command WordFault) (files : Option Files) (before after : Output)
    : Type 0 where
  pub job : JobValue
  pub defined : CommandGives command files (Ok job)
  pub name : Bytes
  pub named : output_of command ≡ Some name
  pub broken_off : BrokenOff name (job_file job) before after

-- memory ran out while the file of the command's job was written, behind k plans
pub record StoppedShort (command : Result Command WordFault) (files : Option Files) (before after : Output)
    : Type 0 where
  pub job : JobValue
  pub defined : CommandGives command files (Ok job)
  pub name : Bytes
  pub named : output_of command ≡ Some name
  pub k : ℕ
  pub cut_short : CutShort name job k before after

-- what is said of a command that was refused before the output was begun
pub record RefusedBefore (command : Result Command WordFault) (r : Refusal) (shelf shelf_after : Store)
    (before after : Output) : Type 0 where
  pub says : SaysDefined (Err r) (CommandGives command shelf.files)
      (λ name. HasFailedRead command name shelf shelf_after) (Unit {0})
  pub untouched : after ≡ before

-- what the end of a command in one thread says of the shelf and the output
abbrev pub SaysEnd : Result Done Refusal → Result Command WordFault → Store → Store → Output → Output → Type 0
SaysEnd (Ok done) command shelf shelf_after before after = DidCommand command shelf.files done before after
SaysEnd (Err refusal.WriteFault) command shelf shelf_after before after = FailedToWrite command shelf.files before after
SaysEnd (Err refusal.NoMemory) command shelf shelf_after before after =
    RefusedBefore command refusal.NoMemory shelf shelf_after before after
    ⊎ StoppedShort command shelf.files before after
SaysEnd (Err r) command shelf shelf_after before after = RefusedBefore command r shelf shelf_after before after

-- ---- the console

-- the console got the line of a refusal, or where it failed a front of it
abbrev pub SaidRefusal : Refusal → Output → Output → Type 0
SaidRefusal r before after = Put before (refusal_line r) after ⊎ PutFront before (refusal_line r) after

-- the lines of a run that was done: one of what was done, and those of the journal where it is asked for
abbrev pub done_lines : Done → Bool → List Event → Bytes
done_lines done is_asked journal = done_text done ++ cond is_asked (journal_text journal) []

-- What the console got of how a run ended, and the answer that this makes. Where the console fails behind a
-- refusal, the refusal stays.
abbrev pub Tells : Result Done Refusal → Bool → List Event → Option Refusal → Output → Output → Type 0
Tells (Ok done) is_asked journal None before after = Put before (done_lines done is_asked journal) after
Tells (Ok done) is_asked journal (Some r) before after =
    (r ≡ refusal.ConsoleFault) × PutFront before (done_lines done is_asked journal) after
Tells (Err r) is_asked journal None before after = ⊥
Tells (Err r) is_asked journal (Some told) before after = (told ≡ r) × SaidRefusal r before after

-- what a run in one thread says of the words, the shelf, the output and the console: by how it ended, and by what the
-- console got of it
pub record Says (answer : Option Refusal) (words : List Bytes) (shelf shelf_after : Store)
    (before after console console_after : Output) : Type 0 where
  pub ended : Result Done Refusal
  pub says : SaysEnd ended (command_of words) shelf shelf_after before after
  pub told : Tells ended false [] answer console console_after

-- ---- a slice by many workers

-- a slice was done by so many workers: its job is defined, the output holds exactly the file, and the journal is a full
-- run
pub record DidSlice (files : Option Files) (task : Task) (done : Done) (journal : List Event) (before after : Output)
    : Type 0 where
  pub did : DidCommand (Ok (Slice task)) files done before after
  pub full : IsFullRun (length did.job.layers) task.workers journal

-- the output failed while a slice was written, and the journal tells where
pub record FailedToSlice (files : Option Files) (task : Task) (journal : List Event) (before after : Output)
    : Type 0 where
  pub failed : FailedToWrite (Ok (Slice task)) files before after
  pub ran : RanToFailure failed.job task.workers journal before after

-- memory ran out while a slice was written, and the journal tells where
pub record StoppedSlice (files : Option Files) (task : Task) (journal : List Event) (before after : Output)
    : Type 0 where
  pub job : JobValue
  pub defined : CommandGives (Ok (Slice task)) files (Ok job)
  pub name : Bytes
  pub named : task.out ≡ Some name
  pub ran : RanOutOfMemory (length job.layers) task.workers journal
  pub cut_short : CutShortWide name job journal before after

-- a slice that was refused before the output was begun has no journal
pub record RefusedSlice (task : Task) (r : Refusal) (shelf shelf_after : Store) (journal : List Event)
    (before after : Output) : Type 0 where
  pub refused : RefusedBefore (Ok (Slice task)) r shelf shelf_after before after
  pub nothing : journal ≡ []

-- what the end of a slice says of the shelf, the journal and the output
abbrev pub SaysSlice : Result Done Refusal → Task → List Event → Store → Store → Output → Output → Type 0
SaysSlice (Ok done) task journal shelf shelf_after before after = DidSlice shelf.files task done journal before after
SaysSlice (Err refusal.WriteFault) task journal shelf shelf_after before after =
    FailedToSlice shelf.files task journal before after
SaysSlice (Err refusal.NoMemory) task journal shelf shelf_after before after =
    RefusedSlice task refusal.NoMemory shelf shelf_after journal before after
    ⊎ StoppedSlice shelf.files task journal before after
SaysSlice (Err r) task journal shelf shelf_after before after =
    RefusedSlice task r shelf shelf_after journal before after

-- what the end of a command says: of a slice with its journal, of every other as in one thread and with none
abbrev pub SaysWide : Result Done Refusal → Result Command WordFault → List Event → Store → Store → Output → Output
    → Type 0
SaysWide ended (Ok (Slice task)) journal shelf shelf_after before after =
    SaysSlice ended task journal shelf shelf_after before after
SaysWide ended command journal shelf shelf_after before after =
    SaysEnd ended command shelf shelf_after before after × (journal ≡ [])

-- the words ask for the lines of the journal
abbrev pub asks_journal : Result Command WordFault → Bool
asks_journal (Ok (Slice task)) = task.journal
asks_journal command = false

-- what a run of many workers says of the words, the shelf, the output, the console and the journal
pub record SaysAll (answer : Option Refusal) (words : List Bytes) (journal : List Event) (shelf shelf_after : Store)
    (before after console console_after : Output) : Type 0 where
  pub ended : Result Done Refusal
  pub says : SaysWide ended (command_of words) journal shelf shelf_after before after
  pub told : Tells ended (asks_journal (command_of words)) journal answer console console_after
