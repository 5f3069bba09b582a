-- What the plans of all layers take together: time, and filament.
use Rattle.std.specs.Prelude.{ℕ, ◌+◌, ◌*◌, ◌==◌, nat_lt, cond, List, [], ◌∷◌, length, map}
use Rattle.std.specs.Int.RustNames.{unsigned_abs}
use Rattle.std.specs.List.{sum_by}
use Rattle.slice_base.specs.declared.points.Pt.{Pt}
use Rattle.plan_types.specs.declared.plans.ExtruderPlan.{ExtruderPlan}
use Rattle.plan_types.specs.Extruders.{extruder_of}
use Rattle.plan_types.specs.Jobs.{JobValue}
use Rattle.plan_types.specs.Leads.{origin, lead_of, end_of_plans}
use Rattle.plan_types.specs.Orders.{all_extruders}
use Rattle.plan_types.specs.Plans.{LayerPlanValue, time_in, volume_of_plan}
use Rattle.gcode_write.specs.Filament.{extruded_of}
use Rattle.preheat_plan.specs.Past.{rules_of}

-- ---- time

-- the time of layers, one after another, the first of them from this place: of the travel to each layer's first path,
-- and of its paths, µs
abbrev pub time_from : (ℕ → ℕ) → Pt → List LayerPlanValue → ℕ
time_from speed at [] = 0
time_from speed at (l ∷ ls) = lead_of speed at l.plans + time_in l.plans + time_from speed (end_of_plans at l.plans) ls

-- the time of a print of these layers, µs
abbrev pub time_of : JobValue → List LayerPlanValue → ℕ
time_of job ls = time_from (rules_of job).speed origin ls

-- ---- filament

-- the volume of the paths of extruder e on a layer, at a flow of 100 percent, µm³
abbrev pub volume_by : ℕ → List ExtruderPlan → ℕ
volume_by e xs = sum_by (λ x. cond (x.extruder == e) (volume_of_plan x) 0) xs

-- the same on all of these layers
abbrev pub volume_on : ℕ → List LayerPlanValue → ℕ
volume_on e ls = sum_by (λ l. volume_by e l.plans) ls

-- the filament for a volume at a flow of 100 percent, hundred-thousandths of a millimetre: where E of the file would
-- stand after it; none where the job doesn't have extruder e
abbrev pub filament_for : JobValue → ℕ → ℕ → ℕ
filament_for job e volume =
    let x = extruder_of job.settings.extruders e in
    cond (nat_lt e (length job.settings.extruders)) (unsigned_abs (extruded_of x (volume * x.material_flow))) 0

-- the filament that extruder e pushes out on these layers, hundred-thousandths of a millimetre, by one division
abbrev pub filament_of : JobValue → List LayerPlanValue → ℕ → ℕ
filament_of job ls e = filament_for job e (volume_on e ls)

-- the same of each extruder that a printer can have, by number
abbrev pub filaments_of : JobValue → List LayerPlanValue → List ℕ
filaments_of job ls = map (filament_of job ls) all_extruders
