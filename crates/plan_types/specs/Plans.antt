-- Plans of layers as contracts see them, and their print moves.
use Rattle.std.specs.Prelude.{ℕ, ℤ, ◌+◌, ◌-◌, ◌*◌, ◌^◌, ◌<◌, ◌≤◌, ◌==◌, unsigned_abs, List, [], ◌∷◌, length}
use Rattle.std.specs.List.{sum_by, count_by}
use Rattle.slice_base.specs.declared.points.Pt.{Pt}
use Rattle.slice_base.specs.Plane.{square_of}
use Rattle.slice_base.specs.Whole.{root_of}
use Rattle.plan_types.specs.Paths.{PathValue}
use Rattle.plan_types.specs.declared.plans.ExtruderPlan.{ExtruderPlan}
use Rattle.plan_types.specs.declared.inserts.Insert.{Insert}

-- the plan of a layer: the record of its fields
pub record LayerPlanValue : Type 0 where
  pub number : ℕ
  pub z : ℤ
  pub thickness : ℤ
  pub fan : ℕ
  pub lead : ℕ
  pub plans : List ExtruderPlan
  pub inserts : List Insert

-- how many print moves a path has: one from each point to the next
abbrev pub moves_of : PathValue → ℕ
moves_of path = length path.points - 1

-- how many print moves the paths of an extruder have
abbrev pub moves_of_plan : ExtruderPlan → ℕ
moves_of_plan plan = sum_by moves_of plan.paths

-- how many print moves the paths of all extruders have
abbrev pub moves_in : List ExtruderPlan → ℕ
moves_in plans = sum_by moves_of_plan plans

-- the length of the way from a point through others, µm
abbrev pub length_through : Pt → List Pt → ℕ
length_through p [] = 0
length_through p (q ∷ qs) = root_of (square_of p q) + length_through q qs

-- the length of the way along points, µm
abbrev pub length_along : List Pt → ℕ
length_along [] = 0
length_along (p ∷ ps) = length_through p ps

-- the volume of a path at a flow of 100 percent: its length by its width by its height, µm³
abbrev pub volume_of : PathValue → ℕ
volume_of path = length_along path.points * (unsigned_abs path.width * unsigned_abs path.thickness)

-- the volume of the paths of an extruder
abbrev pub volume_of_plan : ExtruderPlan → ℕ
volume_of_plan plan = sum_by volume_of plan.paths

-- the volume of the paths of all extruders
abbrev pub volume_in : List ExtruderPlan → ℕ
volume_in plans = sum_by volume_of_plan plans

-- the time of the paths of an extruder, µs
abbrev pub time_of_plan : ExtruderPlan → ℕ
time_of_plan plan = sum_by (λ path. path.time) plan.paths

-- the time of the paths of all extruders, µs
abbrev pub time_in : List ExtruderPlan → ℕ
time_in plans = sum_by time_of_plan plans

-- no extruder is in two of these plans
abbrev pub EachOnce : List ExtruderPlan → Type 0
EachOnce plans = (e : ℕ) → count_by (λ x. x.extruder == e) plans ≤ 1

-- a plan of fewer moves than any memory holds, which prints and takes no more than so many moves can
pub record IsPlan (plans : List ExtruderPlan) : Type 0 where
  pub few : moves_in plans < 2 ^ 40
  pub volume_small : volume_in plans ≤ 2 ^ 90
  pub time_small : time_in plans ≤ 2 ^ 83
