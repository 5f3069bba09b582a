-- How a run of many workers ended, and what is told of it.
use Rattle.std.proofs.Common.{ℕ, ◌≡◌, List, Bool, Option, Some, None, ◌⊎◌, inl, inr, Result, Ok, Err, refl, sym, ap, subst, arith}
use Rattle.slice_base.specs.Causes.{Rose, counted}
use Rattle.slice_base.specs.Shapes.{Bytes}
use Rattle.outside.specs.Files.{Files}
use Rattle.outside.specs.Store.{Store}
use Rattle.outside.specs.Output.{Output}
use Rattle.answers.specs.declared.refusal.Refusal.{Refusal}
use Rattle.answers.specs.declared.refusal.Refusal.TheVariants as refusal
use Rattle.cli_words.specs.declared.command.Command.{Command}
use Rattle.cli_words.specs.declared.command.Command.TheVariants.{Slice, Serial, Check, Gen}
use Rattle.cli_words.specs.declared.command.Task.{Task}
use Rattle.cli_words.specs.declared.command.WordFault.{WordFault}
use Rattle.plan_types.specs.Jobs.{JobValue}
use Rattle.ring_core.specs.declared.event.Event.{Event}
use Rattle.slice_engine.specs.declared.done.Done.{Done}
use Rattle.slice_engine.specs.declared.done.Done.TheVariants.{Sliced}
use Rattle.slice_engine.specs.declared.writing.Stop.{Stop}
use Rattle.slice_engine.specs.declared.writing.Stop.TheVariants.{Memory, Write}
use Rattle.slice_engine.specs.Jobs.{CommandGives}
use Rattle.slice_engine.specs.Reads.{read_faults}
use Rattle.slice_engine.specs.Inner.Answered.{refusal_in}
use Rattle.slice_engine.specs.Answers.{HoldsFile, SaysEnd, SaysWide, SaysSlice, Tells, WriteFaultsWide, write_faults}
use Rattle.slice_engine.specs.Files.{job_file}
use Rattle.slice_engine.specs.Totals.{totals_of}
use Rattle.slice_engine.specs.Inner.Feeding.{stop_refusal}
use Rattle.slice_engine.specs.Inner.Slicing.{WroteWide}

-- ---- a slice

-- a slice that was written to its end
pub sliced : (task : Task) (shelf shelf_after : Store) (journal : List Event) (job : JobValue) (name : Bytes) (before after : Output) → CommandGives (Ok (Slice task)) shelf.files (Ok job) → task.out ≡ Some name
    → WroteWide (Ok tt) journal job task.workers name before after → SaysSlice (Ok (Sliced (totals_of job))) task journal shelf shelf_after before after
sliced task shelf shelf_after journal job name before after g named w = record {
  did = record {
    job = job;
    defined = g;
    is_done = refl;
    holds = subst (λ (out : Option Bytes). HoldsFile out (job_file job) before after) (sym named) w.1;
  };
  full = w.0;
}

-- a slice that wasn't
pub slice_stopped : (task : Task) (shelf shelf_after : Store) (journal : List Event) (job : JobValue) (name : Bytes) (before after : Output) (stop : Stop) → CommandGives (Ok (Slice task)) shelf.files (Ok job) → task.out ≡ Some name
    → WroteWide (Err stop) journal job task.workers name before after → SaysSlice (Err (stop_refusal stop)) task journal shelf shelf_after before after
slice_stopped task shelf shelf_after journal job name before after Write g named w = record { failed = record { job = job; defined = g; name = name; named = named; broken_off = w.1 }; ran = w.0 }
slice_stopped task shelf shelf_after journal job name before after Memory g named w = inr (record { job = job; defined = g; name = name; named = named; ran = w.0; cut_short = w.1 })

-- its sink failed once at most
pub slice_writes : (journal : List Event) (job : JobValue) (workers : ℕ) (name : Bytes) (before after : Output) (stop : Stop) → WroteWide (Err stop) journal job workers name before after
    → WriteFaultsWide (Some (stop_refusal stop)) before.faults after.faults
slice_writes journal job workers name before after Write w = w.1.failed_once
slice_writes journal job workers name before after Memory w = w.1.faults

-- what fails in one thread may fail here
pub still_writes : (answer : Option Refusal) (before after : ℕ) → after ≡ write_faults answer before → WriteFaultsWide answer before after
still_writes (Some refusal.WriteFault) before after e = e
still_writes (Some refusal.NoMemory) before after e = inl e
still_writes (Some r) before after e = e
still_writes None before after e = e

-- ---- the end of every command, as one thread would tell it of some output

pub as_still : (ended : Result Done Refusal) (command : Result Command WordFault) (journal : List Event) (shelf shelf_after : Store) (o p : Output) → SaysWide ended command journal shelf shelf_after o p → (q : Output) × SaysEnd ended command shelf shelf_after o q
as_still (Ok done) (Ok (Slice task)) journal shelf shelf_after o p says = (p, says.did)
as_still (Err refusal.WriteFault) (Ok (Slice task)) journal shelf shelf_after o p says = (p, says.failed)
as_still (Err refusal.NoMemory) (Ok (Slice task)) journal shelf shelf_after o p says = (o, inl (record { says = tt; untouched = refl }))
as_still (Err r) (Ok (Slice task)) journal shelf shelf_after o p says = (p, says.refused)
as_still ended (Ok (Serial task)) journal shelf shelf_after o p says = (p, says.0)
as_still ended (Ok (Check task)) journal shelf shelf_after o p says = (p, says.0)
as_still ended (Ok (Gen n name)) journal shelf shelf_after o p says = (p, says.0)
as_still ended (Err f) journal shelf shelf_after o p says = (p, says.0)

-- ---- where a job is defined

no_refusal : (j : JobValue) (r : Refusal) → ◌≡◌ {A = Result JobValue Refusal} (Err r) (Ok j) → ⊥
no_refusal j r e = cc

counted_rose : (before after : ℕ) → after ≡ counted before → Rose before after
counted_rose before after e = omega arith

-- and nothing failed, all was done, unless memory ran out
pub complete_told : (command : Result Command WordFault) (files : Option Files) (job : JobValue) (ended : Result Done Refusal) (asked : Bool) (journal : List Event) (answer : Option Refusal) (shelf shelf_after : Store) (o p q before after : Output)
    → ((a b : Result JobValue Refusal) → CommandGives command files a → CommandGives command files b → a ≡ b) → shelf.files ≡ files → CommandGives command files (Ok job)
    → (Rose shelf.faults shelf_after.faults → ⊥) → (Rose o.faults p.faults → ⊥) → (Rose before.faults after.faults → ⊥)
    → shelf_after.faults ≡ read_faults (refusal_in ended) shelf.faults → WriteFaultsWide (refusal_in ended) o.faults p.faults
    → SaysEnd ended command shelf shelf_after o q → Tells ended asked journal answer before after → (answer ≡ None) ⊎ (answer ≡ Some refusal.NoMemory)
complete_told command files job (Ok done) asked journal None shelf shelf_after o p q before after one told g shelf_quiet quiet console_quiet reads writes says tells = inl refl
complete_told command files job (Ok done) asked journal (Some r) shelf shelf_after o p q before after one told g shelf_quiet quiet console_quiet reads writes says tells =
    absurd (console_quiet (counted_rose before.faults after.faults tells.1.cause))
complete_told command files job (Err r) asked journal None shelf shelf_after o p q before after one told g shelf_quiet quiet console_quiet reads writes says tells = absurd tells
complete_told command files job (Err refusal.WriteFault) asked journal (Some s) shelf shelf_after o p q before after one told g shelf_quiet quiet console_quiet reads writes says tells =
    absurd (quiet (counted_rose o.faults p.faults writes))
complete_told command files job (Err refusal.NoMemory) asked journal (Some s) shelf shelf_after o p q before after one told g shelf_quiet quiet console_quiet reads writes says tells = inr (ap Some tells.0)
complete_told command files job (Err (refusal.ReadFault name)) asked journal (Some s) shelf shelf_after o p q before after one told g shelf_quiet quiet console_quiet reads writes says tells =
    absurd (shelf_quiet (counted_rose shelf.faults shelf_after.faults reads))
complete_told command files job (Err r) asked journal (Some s) shelf shelf_after o p q before after one told g shelf_quiet quiet console_quiet reads writes says tells =
    absurd (no_refusal job r (one (Err r) (Ok job) (subst (λ (f : Option Files). CommandGives command f (Err r)) told says.says) g))

-- ---- what was asked for

-- it is told only where all was done
pub tells_asked : (ended : Result Done Refusal) (asked wanted : Bool) (journal : List Event) (answer : Option Refusal) (before after : Output) → ((done : Done) → ended ≡ Ok done → asked ≡ wanted)
    → Tells ended asked journal answer before after → Tells ended wanted journal answer before after
tells_asked (Ok done) asked wanted journal answer before after same tells = subst (λ (a : Bool). Tells (Ok done) a journal answer before after) (same done refl) tells
tells_asked (Err r) asked wanted journal None before after same tells = tells
tells_asked (Err r) asked wanted journal (Some s) before after same tells = tells
