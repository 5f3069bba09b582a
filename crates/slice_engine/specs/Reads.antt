-- What an answer says of the shelf.
use Rattle.std.specs.Prelude.{ℕ, ◌≡◌, List, Option, Some, None, Result, Ok, Err}
use Rattle.slice_base.specs.Causes.{counted}
use Rattle.outside.specs.Store.{Store}
use Rattle.answers.specs.declared.refusal.Refusal.{Refusal}
use Rattle.answers.specs.declared.refusal.Refusal.TheVariants as refusal
use Rattle.cli_words.specs.declared.command.Command.{Command}
use Rattle.cli_words.specs.declared.command.Command.TheVariants.{Slice, Serial, Check, Gen}
use Rattle.cli_words.specs.declared.command.Item.{Item}
use Rattle.cli_words.specs.declared.command.WordFault.{WordFault}
use Rattle.cli_words.specs.Command.{command_of}
use Rattle.plate_input.specs.Reads.{EndsAt, FailedRead, ReadsAll, ReadsSome}
use Rattle.plan_types.specs.Jobs.{JobValue}

-- how many reads there were: one for each file that the items name, unless the read of a file was the last, or
-- memory ran out
abbrev pub ReadsUpTo : Option Refusal → List Item → Store → Store → Type 0
ReadsUpTo None items before after = ReadsAll items before after
ReadsUpTo (Some (refusal.ReadFault name)) items before after = EndsAt items name before after
ReadsUpTo (Some (refusal.TooLong name)) items before after = EndsAt items name before after
ReadsUpTo (Some refusal.NoMemory) items before after = ReadsSome items before after
ReadsUpTo (Some r) items before after = ReadsAll items before after

-- the same of a task that may be cut short behind its reads by the output, the console or want of memory
pub record TaskReads (answer : Option Refusal) (items : List Item) (before after : Store) : Type 0 where
  pub reads : ReadsUpTo answer items before after
  pub files : after.files ≡ before.files

-- the same of a command; the shelf is as before where the words are at fault or no file is read
abbrev pub CommandReads : Result Command WordFault → Option Refusal → Store → Store → Type 0
CommandReads (Ok (Slice task)) answer before after = TaskReads answer task.items before after
CommandReads (Ok (Serial task)) answer before after = TaskReads answer task.items before after
CommandReads (Ok (Check task)) answer before after = TaskReads answer task.items before after
CommandReads (Ok (Gen number name)) answer before after = after ≡ before
CommandReads (Err f) answer before after = after ≡ before

-- the same of words
abbrev pub WordsRead : List (List ℕ) → Option Refusal → Store → Store → Type 0
WordsRead words answer before after = CommandReads (command_of words) answer before after

-- the shelf's count of faults after a run: a failed read counts one, and nothing else does
abbrev pub read_faults : Option Refusal → ℕ → ℕ
read_faults (Some (refusal.ReadFault name)) before = counted before
read_faults answer before = before

-- the words have no fault, and the read of one of their files failed
abbrev pub HasFailedRead : Result Command WordFault → List ℕ → Store → Store → Type 0
HasFailedRead (Ok (Slice task)) name before after = FailedRead task.items name before after
HasFailedRead (Ok (Serial task)) name before after = FailedRead task.items name before after
HasFailedRead (Ok (Check task)) name before after = FailedRead task.items name before after
HasFailedRead (Ok (Gen number file)) name before after = ⊥
HasFailedRead (Err f) name before after = ⊥

-- what a job, or a refusal, says of what defines it: it is what is defined, but for a failed read and want of memory
abbrev pub SaysDefined : Result JobValue Refusal → (Result JobValue Refusal → Type 0) → (List ℕ → Type 0) → Type 0
    → Type 0
SaysDefined (Err (refusal.ReadFault name)) Gives Failed Faultless = Failed name
SaysDefined (Err refusal.NoMemory) Gives Failed Faultless = Faultless
SaysDefined answer Gives Failed Faultless = Gives answer
