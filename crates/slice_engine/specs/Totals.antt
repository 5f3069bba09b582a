-- What is told of a job as a whole.
use Rattle.std.specs.Prelude.{ℕ, ◌≡◌, ◌==◌, Bool, true, false, not, ◌||◌, cond, List, [], ◌∷◌, length, Option, Some, None, Result, Ok}
use Rattle.slice_base.specs.Causes.{counted}
use Rattle.slice_base.specs.declared.points.Pt.{Pt}
use Rattle.outside.specs.Files.{Files}
use Rattle.answers.specs.declared.refusal.Refusal.{Refusal}
use Rattle.cli_words.specs.declared.command.Command.{Command}
use Rattle.cli_words.specs.declared.command.Command.TheVariants.{Check}
use Rattle.cli_words.specs.declared.command.WordFault.{WordFault}
use Rattle.plan_types.specs.Areas.{MeshAreasValue}
use Rattle.plan_types.specs.declared.jobs.LayerAreas.{LayerAreas}
use Rattle.plan_types.specs.Jobs.{JobValue}
use Rattle.print_totals.specs.Totals.{time_of, filaments_of}
use Rattle.slice_engine.specs.declared.totals.Totals.{Totals}
use Rattle.slice_engine.specs.Jobs.{CommandGives}
use Rattle.slice_engine.specs.Files.{plans_of}

-- a region has a loop
abbrev pub has_loop : List (List Pt) → Bool
has_loop region = not (length region == 0)

-- one of these regions has a loop
abbrev pub has_loops : List (List (List Pt)) → Bool
has_loops [] = false
has_loops (region ∷ regions) = cond (has_loop region) true (has_loops regions)

-- a mesh has a wall, skin or fill on a layer
abbrev pub has_areas : MeshAreasValue → Bool
has_areas m = has_loops m.walls || (has_loop m.skin || has_loop m.fill)

-- none of these meshes has one
abbrev pub are_bare : List MeshAreasValue → Bool
are_bare [] = true
are_bare (m ∷ ms) = cond (has_areas m) false (are_bare ms)

-- one more, where no mesh has an area on the layer
abbrev pub with_bare : ℕ → LayerAreas → ℕ
with_bare n layer = cond (are_bare layer.meshes) (counted n) n

-- so many, and those of these layers on which no mesh has an area
abbrev pub with_bare_layers : ℕ → List LayerAreas → ℕ
with_bare_layers n [] = n
with_bare_layers n (layer ∷ layers) = with_bare_layers (with_bare n layer) layers

-- the estimated time of a job's print, µs
unfoldable pub job_time : JobValue → ℕ
job_time job = time_of job (plans_of job)

-- the filament of each extruder on all layers of a job, by number, hundred-thousandths of a millimetre
unfoldable pub job_filaments : JobValue → List ℕ
job_filaments job = filaments_of job (plans_of job)

-- no filament of any extruder
abbrev pub no_filaments : List ℕ
no_filaments = 0 ∷ 0 ∷ 0 ∷ 0 ∷ 0 ∷ 0 ∷ 0 ∷ 0 ∷ []

-- the totals of a job whose layers are planned
abbrev pub totals_of : JobValue → Totals
totals_of job = record {
  layers = length job.layers;
  open_outlines = job.open_outlines;
  bare_layers = with_bare_layers 0 job.layers;
  time = job_time job;
  filaments = job_filaments job;
}

-- the totals of a job of which nothing is planned: neither its time nor its filament is known
abbrev pub unplanned_totals : JobValue → Totals
unplanned_totals job = record {
  layers = length job.layers;
  open_outlines = job.open_outlines;
  bare_layers = with_bare_layers 0 job.layers;
  time = 0;
  filaments = no_filaments;
}

-- the totals that a command tells of its job: `check` plans nothing
abbrev pub command_totals : Result Command WordFault → JobValue → Totals
command_totals (Ok (Check task)) job = unplanned_totals job
command_totals command job = totals_of job

-- all are 0
abbrev pub no_totals : Totals
no_totals = record { layers = 0; open_outlines = 0; bare_layers = 0; time = 0; filaments = no_filaments }

-- a command's job is defined, and these are the totals that it tells of it
pub record HasTotals (command : Result Command WordFault) (files : Option Files) (totals : Totals) : Type 0 where
  pub job : JobValue
  pub defined : CommandGives command files (Ok job)
  pub are : totals ≡ command_totals command job

-- the totals of a run: those of its job where it was done, and none where it was refused
abbrev pub RunTotals : Option Refusal → Result Command WordFault → Option Files → Totals → Type 0
RunTotals None command files totals = HasTotals command files totals
RunTotals (Some r) command files totals = totals ≡ no_totals
