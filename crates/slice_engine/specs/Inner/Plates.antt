-- Plates on the way to their jobs.
use Rattle.std.specs.Prelude.{ℕ, ◌≡◌, length, Ok, Err}
use Rattle.std.specs.List.{sum_by}
use Rattle.answers.specs.declared.refusal.Refusal.{Refusal}
use Rattle.plate_input.specs.Values.{PlateValue}
use Rattle.plan_types.specs.Jobs.{JobValue}
use Rattle.area_stage.specs.declared.faults.AreaFault.{AreaFault}
use Rattle.area_stage.specs.Areas.{AreasGive}
use Rattle.slice_engine.specs.Jobs.{area_refusal, SamplePlate}

-- this refusal tells why a plate has no areas
pub record LacksAreas (plate : PlateValue) (r : Refusal) : Type 0 where
  pub cause : AreaFault
  pub areas : AreasGive plate.settings plate.meshes (Err cause)
  pub named : r ≡ area_refusal cause

-- the job and the number of triangles of a plate that a number draws
pub record IsSample (number : ℕ) (job : JobValue) (triangles : ℕ) : Type 0 where
  pub plate : PlateValue
  pub defined : SamplePlate number (Ok plate)
  pub areas : AreasGive plate.settings plate.meshes (Ok job)
  pub counted : triangles ≡ sum_by length plate.meshes
