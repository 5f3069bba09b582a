-- The order in which extruders print on a layer.
use Rattle.std.specs.Prelude.{ℕ, ◌==◌, ◌&&◌, Bool, not, List, [], ◌∷◌, ◌++◌}
use Rattle.std.specs.List.{filter}
use Rattle.plan_types.specs.Extruders.{has_bit}

-- the numbers of all extruders that there can be, rising
abbrev pub all_extruders : List ℕ
all_extruders = 0 ∷ 1 ∷ 2 ∷ 3 ∷ 4 ∷ 5 ∷ 6 ∷ 7 ∷ []

-- it is wanted, and the one that printed last
abbrev pub is_kept_on : ℕ → ℕ → ℕ → Bool
is_kept_on last wanted e = has_bit wanted e && (e == last)

-- it is wanted, and another one
abbrev pub is_changed_to : ℕ → ℕ → ℕ → Bool
is_changed_to last wanted e = has_bit wanted e && not (e == last)

-- of the wanted extruders, the one that printed last first, then the others, rising
abbrev pub extruder_order_of : ℕ → ℕ → List ℕ
extruder_order_of last wanted =
    filter (is_kept_on last wanted) all_extruders ++ filter (is_changed_to last wanted) all_extruders
