-- A buffer as contracts see it.
use Rattle.std.specs.Prelude.{ℕ}
use Rattle.outside.specs.declared.pens.Pen.{Pen}
use Rattle.plan_types.specs.Jobs.{JobValue}
use Rattle.gcode_write.specs.declared.progress.Progress.{Progress}
use Rattle.plan_store.specs.Windows.{WindowValue}

-- the job; the plans that are held; the pen that writes into the sink; where the print stands; and how many
-- layers were written
pub record BufferValue (S : Type 0) : Type 0 where
  pub job : JobValue
  pub window : WindowValue
  pub pen : Pen S
  pub progress : Progress
  pub layers : ℕ
