-- What a run did, and the lines that tell it.
use Rattle.std.specs.Prelude.{ℕ, ◌≡◌, ◌==◌, Bool, not, cond, List, [], ◌∷◌, ◌++◌, length, Option, Some, None, Result, Ok, Err}
use Rattle.std.specs.List.{sum_by}
use Rattle.slice_base.specs.Causes.{counted}
use Rattle.slice_base.specs.Shapes.{Bytes}
use Rattle.outside.specs.Pens.{bytes_after}
use Rattle.answers.specs.declared.lines.Generated.{Generated}
use Rattle.answers.specs.declared.refusal.Refusal.{Refusal}
use Rattle.answers.specs.declared.lines.Step.TheVariants as step
use Rattle.answers.specs.Lines.{done_line, checked_line, generated_line, step_line}
use Rattle.cli_words.specs.declared.command.Command.{Command}
use Rattle.cli_words.specs.declared.command.Command.TheVariants.{Slice, Serial, Check, Gen}
use Rattle.cli_words.specs.declared.command.WordFault.{WordFault}
use Rattle.plate_input.specs.Values.{PlateValue}
use Rattle.plan_types.specs.Jobs.{JobValue}
use Rattle.plan_types.specs.Plans.{LayerPlanValue}
use Rattle.plan_types.specs.declared.plans.ExtruderPlan.{ExtruderPlan}
use Rattle.area_stage.specs.Areas.{AreasGive}
use Rattle.ring_core.specs.declared.event.Event.{Event}
use Rattle.ring_core.specs.declared.event.Event.TheVariants.{Claim, Place, Take, Back, Halt}
use Rattle.slice_engine.specs.declared.done.Done.{Done}
use Rattle.slice_engine.specs.declared.done.Done.TheVariants.{Sliced, Checked, Drawn}
use Rattle.slice_engine.specs.declared.totals.Totals.{Totals}
use Rattle.slice_engine.specs.declared.uses.UseCounts.{UseCounts}
use Rattle.slice_engine.specs.Jobs.{SamplePlate}
use Rattle.slice_engine.specs.Files.{plans_of, job_file}
use Rattle.slice_engine.specs.Totals.{totals_of, unplanned_totals, no_totals}

-- ---- uses and switches

-- an extruder's plan has a path
abbrev pub is_use : ExtruderPlan → Bool
is_use plan = not (length plan.paths == 0)

-- one more use: of another extruder than the one before it is a switch, which has one preheat
abbrev pub with_use : UseCounts → ℕ → UseCounts
with_use u e = record { last = e; uses = counted u.uses; switches = cond (e == u.last) u.switches (counted u.switches) }

-- the uses on a layer
abbrev pub with_plans : UseCounts → List ExtruderPlan → UseCounts
with_plans u [] = u
with_plans u (x ∷ xs) = with_plans (cond (is_use x) (with_use u x.extruder) u) xs

-- the uses on layers
abbrev pub with_layers : UseCounts → List LayerPlanValue → UseCounts
with_layers u [] = u
with_layers u (l ∷ ls) = with_layers (with_plans u l.plans) ls

-- the uses of a whole job, which starts with its first extruder
abbrev pub uses_of : JobValue → UseCounts
uses_of job = with_layers (record { last = job.first; uses = 0; switches = 0 }) (plans_of job)

-- ---- what was done

-- what is told of the job that a number draws, whose plate this is
abbrev pub generated_of : ℕ → PlateValue → JobValue → Generated
generated_of number plate job = record {
  number = number;
  triangles = sum_by length plate.meshes;
  layers = length job.layers;
  uses = (uses_of job).uses;
  preheats = (uses_of job).switches;
  bytes = bytes_after 0 (length (job_file job));
}

-- this is told of the job that a number draws, and these are its totals
pub record IsDrawn (number : ℕ) (job : JobValue) (told : Generated) (totals : Totals) : Type 0 where
  pub plate : PlateValue
  pub defined : SamplePlate number (Ok plate)
  pub areas : AreasGive plate.settings plate.meshes (Ok job)
  pub told_is : told ≡ generated_of number plate job
  pub totals_are : totals ≡ totals_of job

-- what a command does with a job
abbrev pub IsDone : Result Command WordFault → JobValue → Done → Type 0
IsDone (Ok (Slice task)) job done = done ≡ Sliced (totals_of job)
IsDone (Ok (Serial task)) job done = done ≡ Sliced (totals_of job)
IsDone (Ok (Check task)) job done = done ≡ Checked (unplanned_totals job)
IsDone (Ok (Gen number name)) job (Drawn told totals) = IsDrawn number job told totals
IsDone (Ok (Gen number name)) job done = ⊥
IsDone (Err f) job done = ⊥

-- the totals of a run stay where it has no refusal
abbrev pub kept_totals : Option Refusal → Totals → Totals
kept_totals None totals = totals
kept_totals (Some r) totals = no_totals

-- the line of what was done
abbrev pub done_text : Done → Bytes
done_text (Sliced totals) = done_line totals.layers
done_text (Checked totals) = checked_line totals.layers
done_text (Drawn told totals) = generated_line told

-- the line of an event; a job that was done has no halt
abbrev pub event_line : Event → Bytes
event_line (Claim worker layer) = step_line step.Claim worker layer
event_line (Place worker layer) = step_line step.Place worker layer
event_line (Take worker layer) = step_line step.Take worker layer
event_line (Back worker layer) = step_line step.Back worker layer
event_line (Halt worker cause) = []

-- the lines of a journal
abbrev pub journal_text : List Event → Bytes
journal_text [] = []
journal_text (e ∷ es) = event_line e ++ journal_text es
