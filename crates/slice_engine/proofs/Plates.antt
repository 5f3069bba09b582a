-- What defines one plate at most defines one job, or one refusal, at most.
use Rattle.std.proofs.Common.{ℕ, ◌≡◌, List, Some, inl, inr, Result, Ok, Err, sym, ap, subst, ◌∙◌}
use Rattle.slice_base.specs.declared.points.Tri.{Tri}
use Rattle.settings_core.specs.Values.{SettingsValue}
use Rattle.outside.specs.Files.{Files}
use Rattle.answers.specs.declared.refusal.Refusal.{Refusal}
use Rattle.answers.specs.declared.refusal.Refusal.TheVariants as refusal
use Rattle.cli_words.specs.declared.command.Command.{Command}
use Rattle.cli_words.specs.declared.command.Command.TheVariants.{Slice, Serial, Check, Gen}
use Rattle.cli_words.specs.declared.command.Item.{Item}
use Rattle.cli_words.specs.declared.command.WordFault.{WordFault}
use Rattle.plate_input.specs.declared.faults.PlateFault.{PlateFault}
use Rattle.plate_input.specs.declared.faults.PlateFault.TheVariants as fault
use Rattle.plate_input.specs.Values.{PlateValue}
use Rattle.plate_input.specs.Plate.{PlateGives}
use Rattle.plate_input.specs.Refusals.{refusal_of}
use Rattle.plan_types.specs.Jobs.{JobValue}
use Rattle.area_stage.specs.declared.faults.AreaFault.{AreaFault}
use Rattle.area_stage.specs.declared.faults.AreaFault.TheVariants as area
use Rattle.area_stage.specs.Areas.{AreasGive}
use Rattle.slice_engine.specs.Jobs.{area_refusal, HasJob, PlateThenAreas, SamplePlate, CommandGives}

-- one plate, or one fault, is defined at most
abbrev pub HasOnePlate : (Result PlateValue PlateFault → Type 0) → Type 0
HasOnePlate Defines = (a b : Result PlateValue PlateFault) → Defines a → Defines b → a ≡ b

-- settings and meshes give one answer
abbrev pub HaveOneAreas : Type 0
HaveOneAreas = (s : SettingsValue) (meshes : List (List Tri)) (a b : Result JobValue AreaFault) → AreasGive s meshes a → AreasGive s meshes b → a ≡ b

same_plate : (p q : PlateValue) → ◌≡◌ {A = Result PlateValue PlateFault} (Ok p) (Ok q) → p ≡ q
same_plate p q e = cc

same_fault : (f g : PlateFault) → ◌≡◌ {A = Result PlateValue PlateFault} (Err f) (Err g) → f ≡ g
same_fault f g e = cc

no_plate : (p : PlateValue) (f : PlateFault) → ◌≡◌ {A = Result PlateValue PlateFault} (Ok p) (Err f) → ⊥
no_plate p f e = cc

same_job : (j k : JobValue) → ◌≡◌ {A = Result JobValue AreaFault} (Ok j) (Ok k) → j ≡ k
same_job j k e = cc

same_cause : (f g : AreaFault) → ◌≡◌ {A = Result JobValue AreaFault} (Err f) (Err g) → f ≡ g
same_cause f g e = cc

no_job : (j : JobValue) (f : AreaFault) → ◌≡◌ {A = Result JobValue AreaFault} (Ok j) (Err f) → ⊥
no_job j f e = cc

-- the areas of a plate are those of the same plate
of_same : (p q : PlateValue) (a : Result JobValue AreaFault) → p ≡ q → AreasGive q.settings q.meshes a → AreasGive p.settings p.meshes a
of_same p q a same g = subst (λ (x : PlateValue). AreasGive x.settings x.meshes a) (sym same) g

module _ (Defines : Result PlateValue PlateFault → Type 0) (plates : HasOnePlate Defines) (jobs : HaveOneAreas) where
  same_plates : (p q : PlateValue) → Defines (Ok p) → Defines (Ok q) → p ≡ q
  same_plates p q g h = same_plate p q (plates (Ok p) (Ok q) g h)

  not_both : (j : JobValue) (r : Refusal) → HasJob Defines j → PlateThenAreas Defines (Err r) → ⊥
  not_both j r x (inl n) = no_plate x.plate n.cause (plates (Ok x.plate) (Err n.cause) x.defined n.defined)
  not_both j r x (inr n) =
      let same = same_plates x.plate n.plate x.defined n.defined in
      no_job j n.cause (jobs x.plate.settings x.plate.meshes (Ok j) (Err n.cause) x.areas (of_same x.plate n.plate (Err n.cause) same n.areas))

  pub one_of_plate : (a b : Result JobValue Refusal) → PlateThenAreas Defines a → PlateThenAreas Defines b → a ≡ b
  one_of_plate (Ok j) (Ok k) x y =
      let same = same_plates x.plate y.plate x.defined y.defined in
      ap Ok (same_job j k (jobs x.plate.settings x.plate.meshes (Ok j) (Ok k) x.areas (of_same x.plate y.plate (Ok k) same y.areas)))
  one_of_plate (Ok j) (Err r) x y = absurd (not_both j r x y)
  one_of_plate (Err r) (Ok k) x y = absurd (not_both k r y x)
  one_of_plate (Err r) (Err s) (inl m) (inl n) = ap Err (m.named ∙ ap refusal_of (same_fault m.cause n.cause (plates (Err m.cause) (Err n.cause) m.defined n.defined)) ∙ sym n.named)
  one_of_plate (Err r) (Err s) (inl m) (inr n) = absurd (no_plate n.plate m.cause (plates (Ok n.plate) (Err m.cause) n.defined m.defined))
  one_of_plate (Err r) (Err s) (inr m) (inl n) = absurd (no_plate m.plate n.cause (plates (Ok m.plate) (Err n.cause) m.defined n.defined))
  one_of_plate (Err r) (Err s) (inr m) (inr n) =
      let same = same_plates m.plate n.plate m.defined n.defined in
      ap Err (m.named ∙ ap area_refusal (same_cause m.cause n.cause (jobs m.plate.settings m.plate.meshes (Err m.cause) (Err n.cause) m.areas (of_same m.plate n.plate (Err n.cause) same n.areas))) ∙ sym n.named)

-- a command, or words at fault, and told files define one job, or one refusal, at most
pub one_command : (command : Result Command WordFault) (files : Files) (a b : Result JobValue Refusal)
    → ((items : List Item) → HasOnePlate (PlateGives items (Some files))) → ((number : ℕ) → HasOnePlate (SamplePlate number)) → HaveOneAreas
    → CommandGives command (Some files) a → CommandGives command (Some files) b → a ≡ b
one_command (Ok (Slice task)) files a b plates samples jobs g h = one_of_plate (PlateGives task.items (Some files)) (plates task.items) jobs a b g h
one_command (Ok (Serial task)) files a b plates samples jobs g h = one_of_plate (PlateGives task.items (Some files)) (plates task.items) jobs a b g h
one_command (Ok (Check task)) files a b plates samples jobs g h = one_of_plate (PlateGives task.items (Some files)) (plates task.items) jobs a b g h
one_command (Ok (Gen number name)) files a b plates samples jobs g h = one_of_plate (SamplePlate number) (samples number) jobs a b g h
one_command (Err f) files a b plates samples jobs g h = g ∙ sym h

-- ---- refusals that a plate may give

-- no words, no output and no console are told by it
abbrev pub OfPlate : Refusal → Type 0
OfPlate (refusal.BadWord n) = ⊥
OfPlate refusal.NoInput = ⊥
OfPlate refusal.NoOutput = ⊥
OfPlate refusal.WriteFault = ⊥
OfPlate refusal.ConsoleFault = ⊥
OfPlate r = Unit {0}

of_fault : (f : PlateFault) → OfPlate (refusal_of f)
of_fault (fault.ReadFault name) = tt
of_fault (fault.TooLong name) = tt
of_fault (fault.NotJson name) = tt
of_fault (fault.BadValue scope key) = tt
of_fault (fault.OutOfRange scope key) = tt
of_fault (fault.UnknownExtruder mesh) = tt
of_fault (fault.BadStl mesh line) = tt
of_fault (fault.TooManyTriangles mesh n) = tt
of_fault (fault.NoTriangles mesh) = tt
of_fault (fault.OutsideVolume mesh n e) = tt
of_fault fault.NoMemory = tt

of_cause : (f : AreaFault) → OfPlate (area_refusal f)
of_cause area.NoLayers = tt
of_cause (area.TooManyLayers n) = tt
of_cause (area.TooTangled mesh layer n) = tt
of_cause area.NoMemory = tt

-- so it is with every refusal that is defined by a plate
pub of_plate : (Defines : Result PlateValue PlateFault → Type 0) (r : Refusal) → PlateThenAreas Defines (Err r) → OfPlate r
of_plate Defines r (inl n) = subst OfPlate (sym n.named) (of_fault n.cause)
of_plate Defines r (inr n) = subst OfPlate (sym n.named) (of_cause n.cause)
