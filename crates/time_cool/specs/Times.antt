-- Times of moves, paths and plans, in µs.
use Rattle.std.specs.Prelude.{ℕ, ◌+◌, ◌-◌, ◌*◌, ◌/◌, Bool, cond, List, [], ◌∷◌, ◌++◌, take, Option, Some, None}
use Rattle.slice_base.specs.declared.points.Pt.{Pt}
use Rattle.slice_base.specs.Plane.{square_of}
use Rattle.slice_base.specs.Whole.{root_of}
use Rattle.settings_core.specs.Values.{ExtruderSettingsValue as ExtruderSettings}
use Rattle.plan_types.specs.Paths.{PathValue as Path}
use Rattle.plan_types.specs.declared.plans.ExtruderPlan.{ExtruderPlan}

-- the time of a move of this length in µm at this speed in µm/s, rounded up
abbrev pub move_time : ℕ → ℕ → ℕ
move_time length speed = (length * 1000000 + (speed - 1)) / speed

-- the time of a move from one point to another
abbrev pub time_between : ℕ → Pt → Pt → ℕ
time_between speed p q = move_time (root_of (square_of p q)) speed

-- the time of the moves from a point through others, one after another
abbrev pub time_through : ℕ → Pt → List Pt → ℕ
time_through speed p [] = 0
time_through speed p (q ∷ qs) = time_between speed p q + time_through speed q qs

-- the time of the moves along a list of points
abbrev pub time_along : ℕ → List Pt → ℕ
time_along speed [] = 0
time_along speed (p ∷ ps) = time_through speed p ps

-- the time of a path's print moves
abbrev pub print_time : Path → ℕ
print_time path = time_along path.speed path.points

-- the points of the travel to a path
abbrev pub way_of : Path → List Pt
way_of path = take 1 path.points

-- the time of the travel to a path; none where there is no point before
abbrev pub travel_time : ExtruderSettings → Option Pt → Path → ℕ
travel_time e None path = 0
travel_time e (Some from) path = time_through e.speed_travel from (way_of path)

-- the time of pulling filament back and pushing it in again, where the path has that
abbrev pub retraction_time : ExtruderSettings → Bool → ℕ
retraction_time e retract = cond retract (2 * move_time e.retraction_amount e.retraction_speed) 0

-- the time of a path with the travel to it
abbrev pub path_time_of : ExtruderSettings → Option Pt → Path → ℕ
path_time_of e from path = travel_time e from path + (print_time path + retraction_time e path.retract)

-- where one stands after moves along these points
abbrev pub end_of : Option Pt → List Pt → Option Pt
end_of from [] = from
end_of from (p ∷ ps) = end_of (Some p) ps

-- the time of paths, each from the end of the one before
abbrev pub paths_time_of : ExtruderSettings → Option Pt → List Path → ℕ
paths_time_of e from [] = 0
paths_time_of e from (p ∷ ps) = path_time_of e from p + paths_time_of e (end_of from p.points) ps

-- the time of all paths of an extruder
abbrev pub plan_time_of : ExtruderSettings → Option Pt → ExtruderPlan → ℕ
plan_time_of e from plan = paths_time_of e from plan.paths
