-- What the program does with its words.
use Rattle.std.specs.Prelude.{ℕ, ◌≡◌, List, Option, Some, None}
use Rattle.slice_base.specs.Shapes.{Bytes}
use Rattle.outside.specs.Store.{Store}
use Rattle.outside.specs.Output.{Output}
use Rattle.answers.specs.declared.refusal.Refusal.{Refusal}
use Rattle.answers.specs.Statuses.{status_in, status_of}
use Rattle.ring_core.specs.declared.event.Event.{Event}
use Rattle.slice_engine.specs.Answers.{SaysAll, SaidRefusal}
use Rattle.slice_engine.specs.Reads.{WordsRead}
use Rattle.cura_slice.specs.declared.help.Topic.{Topic}
use Rattle.cura_slice.specs.Telling.{Told}

-- neither the files nor the output were touched
pub record IsUntouched (shelf shelf_after : Store) (sink sink_after : Output) : Type 0 where
  pub files : shelf_after ≡ shelf
  pub output : sink_after ≡ sink

-- the console got the line of the refusal, or where it failed a front of it, and the status is the refusal's
pub record ToldRefusal (r : Refusal) (status : ℕ) (shelf shelf_after : Store)
    (sink sink_after console console_after : Output) : Type 0 where
  pub its_status : status ≡ status_in r
  pub said : SaidRefusal r console console_after
  pub untouched : IsUntouched shelf shelf_after sink sink_after

-- the topic was told
pub record ToldTopic (topic : Topic) (status : ℕ) (shelf shelf_after : Store)
    (sink sink_after console console_after : Output) : Type 0 where
  pub told : Told status topic console console_after
  pub untouched : IsUntouched shelf shelf_after sink sink_after

-- The job of the words was done or refused, and the workers of a slice kept a journal: the status is that of an
-- answer of which `SaysAll` holds.
pub record DidJob (words : List Bytes) (status : ℕ) (shelf shelf_after : Store)
    (sink sink_after console console_after : Output) : Type 0 where
  pub answer : Option Refusal
  pub journal : List Event
  pub its_status : status ≡ status_of answer
  pub says : SaysAll answer words journal shelf shelf_after sink sink_after console console_after
  pub reads : WordsRead words answer shelf shelf_after

-- what was done with words, by what they ask of the program itself; where they ask nothing of it, their job
abbrev pub DidWords : Option Topic → List Bytes → ℕ → Store → Store → Output → Output → Output → Output → Type 0
DidWords (Some topic) words status shelf shelf_after sink sink_after console console_after =
    ToldTopic topic status shelf shelf_after sink sink_after console console_after
DidWords None words status shelf shelf_after sink sink_after console console_after =
    DidJob words status shelf shelf_after sink sink_after console console_after
