-- What a plan takes from the layers before it: the travel to its first path, and by it the time at which
-- each of its paths begins.
use Rattle.std.specs.Prelude.{ℕ, ◌+◌, ◌*◌, Bool, true, false, cond, List, [], ◌∷◌, pos}
use Rattle.std.specs.List.{sum_by}
use Rattle.std.specs.Int.{div_ceil}
use Rattle.slice_base.specs.declared.points.Pt.{Pt}
use Rattle.slice_base.specs.Plane.{square_of}
use Rattle.slice_base.specs.Whole.{root_of}
use Rattle.plan_types.specs.Paths.{PathValue}
use Rattle.plan_types.specs.Plans.{LayerPlanValue}
use Rattle.plan_types.specs.declared.plans.ExtruderPlan.{ExtruderPlan}

-- where one stands before the first layer
abbrev pub origin : Pt
origin = record { x = pos 0; y = pos 0 }

-- where one stands after points
abbrev pub end_of_points : Pt → List Pt → Pt
end_of_points at [] = at
end_of_points at (p ∷ ps) = end_of_points p ps

-- where one stands after paths
abbrev pub end_of_paths : Pt → List PathValue → Pt
end_of_paths at [] = at
end_of_paths at (p ∷ ps) = end_of_paths (end_of_points at p.points) ps

-- where one stands after the paths of some extruders
abbrev pub end_of_plans : Pt → List ExtruderPlan → Pt
end_of_plans at [] = at
end_of_plans at (x ∷ xs) = end_of_plans (end_of_paths at x.paths) xs

-- where one stands after layers
abbrev pub end_of_layers : Pt → List LayerPlanValue → Pt
end_of_layers at [] = at
end_of_layers at (l ∷ ls) = end_of_layers (end_of_plans at l.plans) ls

-- the time of a move of this length in µm at this speed in µm/s, rounded up to whole µs
abbrev pub time_of_move : ℕ → ℕ → ℕ
time_of_move length speed = div_ceil (length * 1000000) speed

-- the time of the travel to the first of these points
abbrev pub lead_to_points : Pt → ℕ → List Pt → ℕ
lead_to_points at speed [] = 0
lead_to_points at speed (p ∷ ps) = time_of_move (root_of (square_of at p)) speed

-- the time of the travel to the first of these paths, or this one where there is none
abbrev pub lead_to_paths : ℕ → Pt → ℕ → List PathValue → ℕ
lead_to_paths none at speed [] = none
lead_to_paths none at speed (p ∷ ps) = lead_to_points at speed p.points

-- the time of the travel to a layer's first path, at the travel speed of its extruder; 0 where there is none
abbrev pub lead_of : (ℕ → ℕ) → Pt → List ExtruderPlan → ℕ
lead_of speed at [] = 0
lead_of speed at (x ∷ xs) = lead_to_paths (lead_of speed at xs) at (speed x.extruder) x.paths

-- a layer's first path begins at its first boundary, each later one so long after that
abbrev pub before_of : Bool → ℕ → ℕ
before_of is_first time = cond is_first 0 time

-- paths with the time from the layer's first boundary to each
abbrev pub timed_paths : Bool → ℕ → List PathValue → List PathValue
timed_paths is_first time [] = []
timed_paths is_first time (p ∷ ps) =
    record p { before = before_of is_first time } ∷ timed_paths false (time + p.time) ps

-- whether the next path is the layer's first still
abbrev pub is_first_after : Bool → List PathValue → Bool
is_first_after is_first [] = is_first
is_first_after is_first (p ∷ ps) = false

-- the plans of a layer's extruders with these times
abbrev pub timed_plans : Bool → ℕ → List ExtruderPlan → List ExtruderPlan
timed_plans is_first time [] = []
timed_plans is_first time (x ∷ xs) =
    record x { paths = timed_paths is_first time x.paths } ∷
    timed_plans (is_first_after is_first x.paths) (time + sum_by (λ p. p.time) x.paths) xs

-- a plan with its lead, from the place where the layer before ended, and with these times
abbrev pub with_lead : (ℕ → ℕ) → Pt → LayerPlanValue → LayerPlanValue
with_lead speed at l =
    let lead = lead_of speed at l.plans in
    record l { lead = lead; plans = timed_plans true lead l.plans }

-- plans with them, the first of them from this place
abbrev pub with_leads : (ℕ → ℕ) → Pt → List LayerPlanValue → List LayerPlanValue
with_leads speed at [] = []
with_leads speed at (l ∷ ls) = with_lead speed at l ∷ with_leads speed (end_of_plans at l.plans) ls
