-- The file of a job, of which plans are given for all layers, from the lowest up.
use Rattle.std.specs.Prelude.{ℕ, ◌-◌, List, ◌++◌, take, drop}
use Rattle.slice_base.specs.Shapes.{Bytes}
use Rattle.plan_types.specs.Jobs.{JobValue}
use Rattle.plan_types.specs.Plans.{LayerPlanValue}
use Rattle.gcode_write.specs.Layers.{layers_text_of, after_layers}
use Rattle.gcode_write.specs.Ends.{header_of, footer_of, start_of}
use Rattle.preheat_plan.specs.Past.{rules_of}
use Rattle.preheat_plan.specs.Completed.{completed_of}

-- the whole file: the header, the layers with their preheats, the footer
abbrev pub file_of : JobValue → List LayerPlanValue → Bytes
file_of job plans =
    header_of job ++ layers_text_of job.settings.extruders (start_of job) (completed_of (rules_of job) plans)
    ++ footer_of job

-- the header and the texts of the first n layers
abbrev pub text_up_to : JobValue → List LayerPlanValue → ℕ → Bytes
text_up_to job plans n =
    header_of job ++ layers_text_of job.settings.extruders (start_of job) (take n (completed_of (rules_of job) plans))

-- what is written once k plans were accepted: all layers but the last window
abbrev pub written_of : JobValue → List LayerPlanValue → ℕ → Bytes
written_of job plans k = text_up_to job plans (k - job.settings.preheat_window_layers)

-- the text of layer n of completed plans
abbrev pub layer_of : JobValue → List LayerPlanValue → ℕ → Bytes
layer_of job completed n =
    layers_text_of job.settings.extruders
    (after_layers job.settings.extruders (start_of job) (take n completed)) (take 1 (drop n completed))

-- the text of layer n, with the preheats that stand there
abbrev pub text_of : JobValue → List LayerPlanValue → ℕ → Bytes
text_of job plans n = layer_of job (completed_of (rules_of job) plans) n
