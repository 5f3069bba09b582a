-- The extruders that a layer wants, as the bits of a number.
use Rattle.std.specs.Prelude.{ℕ, ◌^◌, ◌==◌, Bool, true, false, cond, ◌&&◌, ◌||◌, nat_lt, List, [], ◌∷◌, fold, slice_index_or, bit_or}
use Rattle.std.specs.List.{filter}
use Rattle.slice_base.specs.Shapes.{Loops}
use Rattle.settings_core.specs.Values.{SettingsValue, MeshSettingsValue}
use Rattle.plan_types.specs.Areas.{MeshAreasValue}
use Rattle.plan_types.specs.Extruders.{has_bit}
use Rattle.plan_types.specs.Orders.{all_extruders}

-- there is a loop
abbrev pub has_loop : Loops → Bool
has_loop [] = false
has_loop (l ∷ ls) = true

-- one of these regions has a loop
abbrev pub has_some_loop : List Loops → Bool
has_some_loop [] = false
has_some_loop (r ∷ rs) = has_loop r || has_some_loop rs

-- there is fill, and fill lines are wanted
abbrev pub is_filled : MeshSettingsValue → Loops → Bool
is_filled m fill = has_loop fill && nat_lt 0 m.infill_line_distance

-- something is printed inside the walls
abbrev pub is_printed_inside : MeshSettingsValue → MeshAreasValue → Bool
is_printed_inside m areas = has_loop areas.skin || is_filled m areas.fill

-- something of the mesh is printed on a layer
abbrev pub is_printed : MeshSettingsValue → MeshAreasValue → Bool
is_printed m areas = has_some_loop areas.walls || is_printed_inside m areas

-- the bit of the mesh's extruder, where something of the mesh is printed
abbrev pub wanted_bit : MeshSettingsValue → MeshAreasValue → ℕ
wanted_bit m areas = cond (is_printed m areas) (2 ^ m.extruder_nr) 0

-- these bits, and those of the extruders that meshes with these settings and areas want
abbrev pub wanted_with : ℕ → List MeshSettingsValue → List MeshAreasValue → ℕ
wanted_with bits [] areas = bits
wanted_with bits (m ∷ ms) [] = bits
wanted_with bits (m ∷ ms) (a ∷ more) = wanted_with (bit_or bits (wanted_bit m a)) ms more

-- the extruders that a layer with these areas wants
abbrev pub wanted_of : SettingsValue → List MeshAreasValue → ℕ
wanted_of s areas = wanted_with 0 s.meshes areas

-- those that some layer wants
abbrev pub used_of : List ℕ → ℕ
used_of wanted = fold bit_or 0 wanted

-- the least of these extruders
abbrev pub least_of : ℕ → ℕ
least_of bits = slice_index_or (filter (has_bit bits) all_extruders) 0 0

-- the least extruder of the first layer that wants one; 0 where none does
abbrev pub first_of : List ℕ → ℕ
first_of [] = 0
first_of (w ∷ ws) = cond (w == 0) (first_of ws) (least_of w)

-- the last of an order; the one before it, where the order has none
abbrev pub last_of : ℕ → List ℕ → ℕ
last_of before [] = before
last_of before (e ∷ es) = last_of e es
