-- The totals of a run.
use Rattle.std.proofs.Common.{◌≡◌, List, Bool, Option, Some, None, Result, Ok, Err, refl, ap}
use Rattle.outside.specs.Store.{Store}
use Rattle.outside.specs.Output.{Output}
use Rattle.answers.specs.declared.refusal.Refusal.{Refusal}
use Rattle.cli_words.specs.declared.command.Command.{Command}
use Rattle.cli_words.specs.declared.command.Command.TheVariants.{Slice, Serial, Check, Gen}
use Rattle.cli_words.specs.declared.command.WordFault.{WordFault}
use Rattle.plan_types.specs.Jobs.{JobValue}
use Rattle.ring_core.specs.declared.event.Event.{Event}
use Rattle.slice_engine.specs.declared.done.Done.{Done}
use Rattle.slice_engine.specs.declared.done.Done.TheVariants.{Sliced, Checked, Drawn}
use Rattle.slice_engine.specs.Totals.{command_totals, RunTotals}
use Rattle.slice_engine.specs.Done.{IsDone, kept_totals}
use Rattle.slice_engine.specs.Inner.Answered.{totals_in}
use Rattle.slice_engine.specs.Answers.{SaysEnd, Tells}

-- what a command did has the totals that it tells of its job
done_totals : (command : Result Command WordFault) (job : JobValue) (done : Done) → IsDone command job done → totals_in (Ok done) ≡ command_totals command job
done_totals (Ok (Slice task)) job done is = ap (λ (d : Done). totals_in (Ok d)) is
done_totals (Ok (Serial task)) job done is = ap (λ (d : Done). totals_in (Ok d)) is
done_totals (Ok (Check task)) job done is = ap (λ (d : Done). totals_in (Ok d)) is
done_totals (Ok (Gen number name)) job (Drawn told totals) is = is.totals_are
done_totals (Ok (Gen number name)) job (Sliced totals) is = absurd is
done_totals (Ok (Gen number name)) job (Checked totals) is = absurd is
done_totals (Err f) job done is = absurd is

-- and so has the run, unless it has a refusal
pub run_totals : (asked : Bool) (journal : List Event) (ended : Result Done Refusal) (command : Result Command WordFault) (answer : Option Refusal) (shelf shelf_after : Store) (o p before after : Output)
    → SaysEnd ended command shelf shelf_after o p → Tells ended asked journal answer before after → RunTotals answer command shelf.files (kept_totals answer (totals_in ended))
run_totals asked journal (Ok done) command None shelf shelf_after o p before after says tells = record { job = says.job; defined = says.defined; are = done_totals command says.job done says.is_done }
run_totals asked journal (Ok done) command (Some r) shelf shelf_after o p before after says tells = refl
run_totals asked journal (Err r) command (Some s) shelf shelf_after o p before after says tells = refl
run_totals asked journal (Err r) command None shelf shelf_after o p before after says tells = absurd tells
