-- What words and files define: a job, or its first refusal.
use Rattle.std.specs.Prelude.{ℕ, ◌≡◌, ◌⊎◌, List, [], ◌∷◌, Option, Result, Ok, Err, codes}
use Rattle.settings_core.specs.declared.pairs.Pair.{Pair}
use Rattle.settings_core.specs.declared.pairs.Scope.TheVariants.{Global}
use Rattle.settings_core.specs.declared.pairs.Given.TheVariants.{Words}
use Rattle.outside.specs.Files.{Files}
use Rattle.answers.specs.declared.refusal.Refusal.{Refusal}
use Rattle.answers.specs.declared.refusal.Refusal.TheVariants as refusal
use Rattle.cli_words.specs.declared.command.Command.{Command}
use Rattle.cli_words.specs.declared.command.Command.TheVariants.{Slice, Serial, Check, Gen}
use Rattle.cli_words.specs.declared.command.Item.{Item}
use Rattle.cli_words.specs.declared.command.WordFault.{WordFault}
use Rattle.cli_words.specs.declared.command.WordFault.TheVariants as fault
use Rattle.cli_words.specs.Command.{command_of}
use Rattle.plate_input.specs.declared.faults.PlateFault.{PlateFault}
use Rattle.plate_input.specs.Values.{PlateValue}
use Rattle.plate_input.specs.Plate.{PlateGives, MakesPlate}
use Rattle.plate_input.specs.Refusals.{refusal_of}
use Rattle.sample_meshes.specs.declared.columns.SampleMesh.TheVariants.{First, Second}
use Rattle.sample_meshes.specs.Meshes.{mesh_text}
use Rattle.plan_types.specs.Jobs.{JobValue}
use Rattle.area_stage.specs.declared.faults.AreaFault.{AreaFault}
use Rattle.area_stage.specs.declared.faults.AreaFault.TheVariants as area
use Rattle.area_stage.specs.Areas.{AreasGive}

-- ---- a plate and its areas

-- the refusal that tells why there are no areas
abbrev pub area_refusal : AreaFault → Refusal
area_refusal area.NoLayers = refusal.NoLayers
area_refusal (area.TooManyLayers n) = refusal.TooManyLayers n
area_refusal (area.TooTangled mesh layer n) = refusal.TooTangled mesh layer n
area_refusal area.NoMemory = refusal.NoMemory

-- a plate is defined, and it gives this job
pub record HasJob (Defines : Result PlateValue PlateFault → Type 0) (job : JobValue) : Type 0 where
  pub plate : PlateValue
  pub defined : Defines (Ok plate)
  pub areas : AreasGive plate.settings plate.meshes (Ok job)

-- no plate is defined, and this refusal tells why
pub record HasNoPlate (Defines : Result PlateValue PlateFault → Type 0) (r : Refusal) : Type 0 where
  pub cause : PlateFault
  pub defined : Defines (Err cause)
  pub named : r ≡ refusal_of cause

-- a plate is defined and has no areas, and this refusal tells why
pub record HasNoAreas (Defines : Result PlateValue PlateFault → Type 0) (r : Refusal) : Type 0 where
  pub plate : PlateValue
  pub defined : Defines (Ok plate)
  pub cause : AreaFault
  pub areas : AreasGive plate.settings plate.meshes (Err cause)
  pub named : r ≡ area_refusal cause

-- what comes of what defines a plate: its job, or why there is none
abbrev pub PlateThenAreas : (Result PlateValue PlateFault → Type 0) → Result JobValue Refusal → Type 0
PlateThenAreas Defines (Ok job) = HasJob Defines job
PlateThenAreas Defines (Err r) = HasNoPlate Defines r ⊎ HasNoAreas Defines r

-- ---- commands

-- what the items of a task and files define
abbrev pub TaskGives : List Item → Option Files → Result JobValue Refusal → Type 0
TaskGives items files = PlateThenAreas (PlateGives items files)

-- the settings of a generated job: two extruders
abbrev pub sample_pairs : List Pair
sample_pairs = record { scope = Global; key = codes "machine_extruder_count"; value = Words (codes "2") } ∷ []

-- the meshes of a generated job: the two that its number draws
abbrev pub sample_texts : ℕ → List (List ℕ)
sample_texts number = mesh_text number First ∷ mesh_text number Second ∷ []

-- the plate of a generated job, whose second mesh is of extruder 1
abbrev pub SamplePlate : ℕ → Result PlateValue PlateFault → Type 0
SamplePlate number = MakesPlate sample_pairs (0 ∷ 1 ∷ []) (sample_texts number)

-- what the number of a generated job defines
abbrev pub SampleGives : ℕ → Result JobValue Refusal → Type 0
SampleGives number = PlateThenAreas (SamplePlate number)

-- the refusal of words at fault
abbrev pub word_refusal : WordFault → Refusal
word_refusal (fault.BadWord n) = refusal.BadWord n
word_refusal fault.NoInput = refusal.NoInput
word_refusal fault.NoOutput = refusal.NoOutput
word_refusal fault.NoMemory = refusal.NoMemory

-- what a command and files define, or words at fault
abbrev pub CommandGives : Result Command WordFault → Option Files → Result JobValue Refusal → Type 0
CommandGives (Ok (Slice task)) files answer = TaskGives task.items files answer
CommandGives (Ok (Serial task)) files answer = TaskGives task.items files answer
CommandGives (Ok (Check task)) files answer = TaskGives task.items files answer
CommandGives (Ok (Gen number name)) files answer = SampleGives number answer
CommandGives (Err f) files answer = answer ≡ Err (word_refusal f)

-- what words and files define
abbrev pub JobGives : List (List ℕ) → Option Files → Result JobValue Refusal → Type 0
JobGives words files answer = CommandGives (command_of words) files answer
