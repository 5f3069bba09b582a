-- The plan of a layer, a function of the job and the layer's number alone.
use Rattle.std.specs.Prelude.{ℕ, pos, Bool, true, false, List, [], ◌∷◌, slice_index_or}
use Rattle.slice_base.specs.declared.points.Pt.{Pt}
use Rattle.settings_core.specs.Values.{SettingsValue as Settings}
use Rattle.plan_types.specs.declared.plans.ExtruderPlan.{ExtruderPlan}
use Rattle.plan_types.specs.declared.jobs.LayerAreas.{LayerAreas}
use Rattle.plan_types.specs.Areas.{MeshAreasValue as MeshAreas}
use Rattle.plan_types.specs.Plans.{LayerPlanValue as LayerPlan}
use Rattle.plan_types.specs.Jobs.{JobValue as Job}
use Rattle.plan_types.specs.Extruders.{extruder_of}
use Rattle.time_cool.specs.Cooling.{slow_down_of}
use Rattle.time_cool.specs.Fans.{fan_of}
use Rattle.layer_plan.specs.declared.groups.Sheet.{Sheet}
use Rattle.layer_plan.specs.declared.drawing.Drawing.{Drawing}
use Rattle.layer_plan.specs.Groups.{groups_of}
use Rattle.layer_plan.specs.Drawing.{with_groups}

-- where the order of a layer begins
abbrev pub start_of : Settings → Pt
start_of s = record { x = s.layer_start_x; y = s.layer_start_y }

-- all that an extruder prints on a layer, from where one stands
abbrev pub drawn : Job → Sheet → List MeshAreas → Bool → Pt → ℕ → Drawing
drawn job sheet areas is_first at e =
    with_groups (extruder_of job.settings.extruders e) (record { at = at; paths = [] })
    (groups_of job sheet areas is_first e)

-- the plans of extruders in their order, each from where the one before ends
abbrev pub drawn_plans : Job → Sheet → List MeshAreas → Bool → Pt → List ℕ → List ExtruderPlan
drawn_plans job sheet areas is_first at [] = []
drawn_plans job sheet areas is_first at (e ∷ es) =
    record { extruder = e; paths = (drawn job sheet areas is_first at e).paths }
    ∷ drawn_plans job sheet areas false (drawn job sheet areas is_first at e).at es

-- the plan of a layer before its times: every path at the speed of its kind
abbrev pub drawn_layer : Job → ℕ → LayerAreas → LayerPlan
drawn_layer job n layer = record {
  number = n;
  z = layer.z;
  thickness = layer.thickness;
  fan = fan_of job.settings n;
  lead = 0;
  plans =
      drawn_plans job (record { number = n; thickness = layer.thickness }) layer.meshes true (start_of job.settings)
      layer.order;
  inserts = [];
}

-- a layer that isn't there
abbrev pub no_layer : LayerAreas
no_layer = record { number = 0; z = pos 0; thickness = pos 0; order = []; meshes = [] }

-- layer n of a job
abbrev pub layer_of : Job → ℕ → LayerAreas
layer_of job n = slice_index_or job.layers n no_layer

-- the plan of layer n of a job: drawn, slowed down where it is too short, each path with its time
abbrev pub plan_of : Job → ℕ → LayerPlan
plan_of job n = slow_down_of job.settings (drawn_layer job n (layer_of job n))
