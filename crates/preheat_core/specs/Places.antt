-- The path of a window of layer plans before which a preheat stands, by its number.
use Rattle.std.specs.Prelude.{ℕ, ◌+◌, ◌-◌, Bool, nat_le, List, Option, Some, None}
use Rattle.settings_core.specs.Values.{ExtruderSettingsValue}
use Rattle.plan_types.specs.Plans.{LayerPlanValue}
use Rattle.preheat_core.specs.Need.{need_of, latest}
use Rattle.preheat_core.specs.Times.{elapsed_of}

-- the time from where an extruder was left to a boundary; `left` is that time at the front
abbrev pub since_at : List LayerPlanValue → ℕ → Option ℕ → ℕ → Option ℕ
since_at window front None b = None
since_at window front (Some left) b = Some (left + (elapsed_of window b - elapsed_of window front))

-- the times from a boundary to the start add up to the need there
abbrev pub is_covering : List LayerPlanValue → ExtruderSettingsValue → Option ℕ → ℕ → ℕ → ℕ → Bool
is_covering window e left front start b =
    nat_le (need_of e (since_at window front left b)) (elapsed_of window start - elapsed_of window b)

-- the greatest boundary from the front to the start that covers the need, else the front
abbrev pub place_of : List LayerPlanValue → ExtruderSettingsValue → Option ℕ → ℕ → ℕ → ℕ
place_of window e left front start = latest (is_covering window e left front start) front (start - front)
