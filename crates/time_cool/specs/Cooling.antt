-- The slow-down of short layers.
use Rattle.std.specs.Prelude.{ℕ, ◌+◌, ◌-◌, ◌*◌, ◌/◌, ◌≤◌, nat_lt, nat_le, min, max, Bool, false, cond, ◌&&◌, List, [], ◌∷◌, Option, Some, None, slice_index_or}
use Rattle.slice_base.specs.declared.points.Pt.{Pt}
use Rattle.settings_core.specs.Values.{SettingsValue as Settings}
use Rattle.settings_core.specs.Values.{ExtruderSettingsValue as ExtruderSettings}
use Rattle.plan_types.specs.Paths.{PathValue as Path}
use Rattle.plan_types.specs.declared.plans.ExtruderPlan.{ExtruderPlan}
use Rattle.plan_types.specs.Plans.{LayerPlanValue as LayerPlan}
use Rattle.plan_types.specs.Extruders.{extruder_of}
use Rattle.time_cool.specs.declared.cooling.Spent.{Spent}
use Rattle.time_cool.specs.Times.{path_time_of, travel_time, print_time, end_of}

-- where one stands after these paths
abbrev pub end_of_paths : Option Pt → List Path → Option Pt
end_of_paths from [] = from
end_of_paths from (p ∷ ps) = end_of_paths (end_of from p.points) ps

-- ---- times

-- a path with its time
abbrev pub timed_path : ExtruderSettings → Option Pt → Path → Path
timed_path e from p = record p { time = path_time_of e from p }

-- paths with their times, each from the end of the one before
abbrev pub timed_paths : ExtruderSettings → Option Pt → List Path → List Path
timed_paths e from [] = []
timed_paths e from (p ∷ ps) = timed_path e from p ∷ timed_paths e (end_of from p.points) ps

-- the plan of an extruder with the times of its paths
abbrev pub timed_plan : Settings → Option Pt → ExtruderPlan → ExtruderPlan
timed_plan s from x = record x { paths = timed_paths (extruder_of s.extruders x.extruder) from x.paths }

-- the same for the plans of all extruders
abbrev pub timed_plans : Settings → Option Pt → List ExtruderPlan → List ExtruderPlan
timed_plans s from [] = []
timed_plans s from (x ∷ xs) = timed_plan s from x ∷ timed_plans s (end_of_paths from x.paths) xs

-- ---- how long a layer takes

-- two times, each added up
abbrev pub plus : Spent → Spent → Spent
plus a b = record { printing = a.printing + b.printing; travelling = a.travelling + b.travelling }

-- no time at all
abbrev pub nothing : Spent
nothing = record { printing = 0; travelling = 0 }

-- what these paths take: the time of their print moves, and that of the travels to them where there is a point before
abbrev pub spent_on_paths : ExtruderSettings → Option Pt → List Path → Spent
spent_on_paths e from [] = nothing
spent_on_paths e from (p ∷ ps) =
    plus (record { printing = print_time p; travelling = travel_time e from p })
    (spent_on_paths e (end_of from p.points) ps)

-- what the paths of an extruder take
abbrev pub spent_on_plan : Settings → Option Pt → ExtruderPlan → Spent
spent_on_plan s from x = spent_on_paths (extruder_of s.extruders x.extruder) from x.paths

-- the same for the plans of all extruders
abbrev pub spent_on : Settings → Option Pt → List ExtruderPlan → Spent
spent_on s from [] = nothing
spent_on s from (x ∷ xs) = plus (spent_on_plan s from x) (spent_on s (end_of_paths from x.paths) xs)

-- ---- the slow-down

-- the least time of a layer, in µs
abbrev pub least_time : Settings → ℕ
least_time s = s.cool_min_layer_time * 1000

-- the layer prints something, and takes less than its least time
abbrev pub is_short : Settings → Spent → Bool
is_short s spent = nat_lt 0 spent.printing && nat_lt (spent.printing + spent.travelling) (least_time s)

-- a speed, slowed down as far as the least time wants, but not below the least speed
abbrev pub slower : Settings → Spent → ℕ → ℕ
slower s spent speed =
    max (min speed s.cool_min_speed) (max 1 (speed * spent.printing / (least_time s - spent.travelling)))

-- a path, slowed down
abbrev pub slower_path : Settings → Spent → Path → Path
slower_path s spent p = record p { speed = slower s spent p.speed }

-- paths, slowed down
abbrev pub slower_paths : Settings → Spent → List Path → List Path
slower_paths s spent [] = []
slower_paths s spent (p ∷ ps) = slower_path s spent p ∷ slower_paths s spent ps

-- the paths of an extruder, slowed down
abbrev pub slower_plan : Settings → Spent → ExtruderPlan → ExtruderPlan
slower_plan s spent x = record x { paths = slower_paths s spent x.paths }

-- the paths of all extruders, slowed down
abbrev pub slower_plans : Settings → Spent → List ExtruderPlan → List ExtruderPlan
slower_plans s spent [] = []
slower_plans s spent (x ∷ xs) = slower_plan s spent x ∷ slower_plans s spent xs

-- the paths of all extruders, slowed down where the layer is too short
abbrev pub slowed_plans : Settings → Spent → List ExtruderPlan → List ExtruderPlan
slowed_plans s spent xs = cond (is_short s spent) (slower_plans s spent xs) xs

-- the paths of all extruders, slowed down where they take too little time, each with its time, the first without travel
abbrev pub cooled : Settings → List ExtruderPlan → List ExtruderPlan
cooled s xs = timed_plans s None (slowed_plans s (spent_on s None xs) xs)

-- a layer, slowed down where it is too short; then each path has its time, the layer's first without the travel to it
abbrev pub slow_down_of : Settings → LayerPlan → LayerPlan
slow_down_of s plan = record plan { plans = cooled s plan.plans }
