-- Paths of a window of layer plans, by their place and by their number.
use Rattle.std.specs.Prelude.{ℕ, ◌+◌, ◌<◌, List, length, take}
use Rattle.plan_types.specs.Plans.{LayerPlanValue}
use Rattle.plan_types.specs.Steps.{path_counts_of}
use Rattle.preheat_core.specs.declared.spots.Spot.{Spot}

-- how many paths of the window stand before it
abbrev pub number_of : List LayerPlanValue → Spot → ℕ
number_of window s = path_counts_of (take s.slot window) + s.path

-- it is a path of the window
pub record IsSpot (window : List LayerPlanValue) (s : Spot) : Type 0 where
  pub slot : s.slot < length window
  pub path : number_of window s < path_counts_of (take (s.slot + 1) window)
