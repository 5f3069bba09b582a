-- The whole plan: the paths of all layers in order.
use Rattle.std.specs.Prelude.{ℕ, suc, ◌+◌, List, [], ◌∷◌, ◌++◌, map, length}
use Rattle.std.specs.List.{flat_map, sum_by}
use Rattle.plan_types.specs.Plans.{LayerPlanValue}
use Rattle.plan_types.specs.declared.plans.ExtruderPlan.{ExtruderPlan}

-- a path of the whole plan: its layer, its extruder, and its time with the travel to it, µs
pub record Step : Type 0 where
  pub layer : ℕ
  pub extruder : ℕ
  pub time : ℕ

-- the paths of an extruder on a layer, as steps
abbrev pub steps_of_plan : ℕ → ExtruderPlan → List Step
steps_of_plan layer x = map (λ p. record { layer = layer; extruder = x.extruder; time = p.time }) x.paths

-- the lead is the time of the travel to the first of them
abbrev pub steps_with_lead : ℕ → List Step → List Step
steps_with_lead lead [] = []
steps_with_lead lead (s ∷ ss) = record s { time = lead + s.time } ∷ ss

-- the paths of a layer, as steps
abbrev pub steps_of_layer : ℕ → LayerPlanValue → List Step
steps_of_layer layer l = steps_with_lead l.lead (flat_map (steps_of_plan layer) l.plans)

-- the paths of all layers, the first of which has this number
abbrev pub steps_from : ℕ → List LayerPlanValue → List Step
steps_from layer [] = []
steps_from layer (l ∷ ls) = steps_of_layer layer l ++ steps_from (suc layer) ls

-- the whole plan
abbrev pub whole_of : List LayerPlanValue → List Step
whole_of ls = steps_from 0 ls

-- how many paths a layer has
abbrev pub path_count_of : LayerPlanValue → ℕ
path_count_of l = sum_by (λ x. length x.paths) l.plans

-- how many paths layers have together
abbrev pub path_counts_of : List LayerPlanValue → ℕ
path_counts_of ls = sum_by path_count_of ls
