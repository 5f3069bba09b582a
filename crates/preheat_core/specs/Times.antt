-- The times of the paths of a window of layer plans, in µs.
use Rattle.std.specs.Prelude.{ℕ, ◌+◌, ◌≡◌, true, List, [], ◌∷◌, take, map}
use Rattle.std.specs.List.{flat_map, sum}
use Rattle.plan_types.specs.Plans.{LayerPlanValue}
use Rattle.plan_types.specs.declared.plans.ExtruderPlan.{ExtruderPlan}
use Rattle.plan_types.specs.Leads.{timed_plans}

-- the times of a layer's paths, without the travel to the first
abbrev pub times_in : List ExtruderPlan → List ℕ
times_in xs = flat_map (λ x. map (λ p. p.time) x.paths) xs

-- the lead is the time of the travel to the first
abbrev pub times_with_lead : ℕ → List ℕ → List ℕ
times_with_lead lead [] = []
times_with_lead lead (t ∷ ts) = (lead + t) ∷ ts

-- the times of a layer's paths
abbrev pub times_of : LayerPlanValue → List ℕ
times_of l = times_with_lead l.lead (times_in l.plans)

-- the times of all paths of a window
abbrev pub all_times : List LayerPlanValue → List ℕ
all_times window = flat_map times_of window

-- the time of the first b paths of a window
abbrev pub elapsed_of : List LayerPlanValue → ℕ → ℕ
elapsed_of window b = sum (take b (all_times window))

-- each path has its time from the layer's first boundary
abbrev pub IsTimed : LayerPlanValue → Type 0
IsTimed l = l.plans ≡ timed_plans true l.lead l.plans
