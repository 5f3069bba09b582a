-- What keeps the numbers of a buffer in range, and what one step of writing does.
use Rattle.std.specs.Prelude.{ℕ, ◌+◌, ◌≡◌, ◌≤◌, List, [], ◌∷◌, length}
use Rattle.std.specs.List.{All}
use Rattle.outside.specs.declared.pens.Pen.{Pen}
use Rattle.outside.specs.Output.{Output}
use Rattle.outside.specs.Pens.{Wrote}
use Rattle.plan_types.specs.Jobs.{JobValue}
use Rattle.plan_types.specs.Plans.{LayerPlanValue}
use Rattle.gcode_write.specs.declared.progress.Progress.{Progress}
use Rattle.gcode_write.specs.Layers.{layer_text_of, after_layer}
use Rattle.preheat_plan.specs.Completed.{KnowsItsExtruders}
use Rattle.preheat_plan.specs.Held.{Held, let_go}
use Rattle.plan_store.specs.Windows.{WindowValue}

-- no more than a window is held, its plans name extruders of the job, and every plan that was taken is held
-- or was written
pub record IsBuffer (job : JobValue) (window : WindowValue) (layers : ℕ) : Type 0 where
  pub room : length window.held.plans ≤ job.settings.preheat_window_layers
  pub known : All (KnowsItsExtruders (length job.settings.extruders)) window.held.plans
  pub counts : window.taken ≡ layers + length window.held.plans
  pub few : window.taken ≤ 40000

-- the oldest of the held plans was written
pub record WroteOldest {S : Type 0} (output : S → Output) (job : JobValue) (old new : Held) (progress after : Progress)
    (pen pen_after : Pen S) : Type 0 where
  pub oldest : LayerPlanValue
  pub parts : old.plans ≡ oldest ∷ new.plans
  pub rest : new ≡ let_go oldest new.plans old
  pub wrote : Wrote output pen (layer_text_of job.settings.extruders progress oldest) pen_after
  pub stands : after ≡ after_layer job.settings.extruders progress oldest
