-- What the answer of a private function says.
use Rattle.std.specs.Prelude.{List, Option, Some, None, Result, Ok, Err}
use Rattle.outside.specs.Store.{Store}
use Rattle.answers.specs.declared.refusal.Refusal.{Refusal}
use Rattle.cli_words.specs.declared.command.Item.{Item}
use Rattle.plate_input.specs.Reads.{FailedRead}
use Rattle.plan_types.specs.Jobs.{JobValue}
use Rattle.slice_engine.specs.declared.done.Done.{Done}
use Rattle.slice_engine.specs.declared.done.Done.TheVariants.{Sliced, Checked, Drawn}
use Rattle.slice_engine.specs.declared.totals.Totals.{Totals}
use Rattle.slice_engine.specs.Jobs.{TaskGives}
use Rattle.slice_engine.specs.Reads.{SaysDefined}
use Rattle.slice_engine.specs.Totals.{no_totals}

-- the refusal in an answer
abbrev pub refusal_in : {T : Type 0} → Result T Refusal → Option Refusal
refusal_in (Ok x) = None
refusal_in (Err r) = Some r

-- the same of a task and its files
abbrev pub SaysTask : Result JobValue Refusal → List Item → Store → Store → Type 0
SaysTask answer items before after =
    SaysDefined answer (TaskGives items before.files) (λ name. FailedRead items name before after) (Unit {0})

-- the totals of what was done; none where it was refused
abbrev pub totals_in : Result Done Refusal → Totals
totals_in (Ok (Sliced totals)) = totals
totals_in (Ok (Checked totals)) = totals
totals_in (Ok (Drawn told totals)) = totals
totals_in (Err r) = no_totals
