-- Needs and places that were worked out by hand: a plan of ten paths of four seconds, a preheat for the last,
-- from the third on.
use Rattle.std.proofs.Common.{ℕ, suc, zero, ◌+◌, ◌≡◌, true, false, pos, List, [], ◌∷◌, Option, Some, None, refl}
use Rattle.settings_core.specs.Values.{ExtruderSettingsValue}
use Rattle.plan_types.specs.declared.plans.Kind.TheVariants.{Fill}
use Rattle.plan_types.specs.Paths.{PathValue}
use Rattle.plan_types.specs.Plans.{LayerPlanValue}
use Rattle.preheat_core.specs.Need.{need_of}
use Rattle.preheat_core.specs.Places.{place_of}

extruder : ℕ → ℕ → ExtruderSettingsValue
extruder heating cooling = record {
  material_print_temperature = 210;
  material_standby_temperature = 150;
  machine_nozzle_heat_up_speed = heating;
  machine_nozzle_cool_down_speed = cooling;
  material_diameter = 1750;
  material_flow = 100;
  retraction_enable = true;
  retraction_amount = 6500;
  retraction_speed = 25000;
  retraction_min_travel = 1500;
  speed_travel = 120000;
}

path : PathValue
path = record { kind = Fill; width = pos 400; thickness = pos 200; speed = 30000; points = []; retract = false; time = 4000000; before = 0 }

ten : List PathValue
ten = path ∷ path ∷ path ∷ path ∷ path ∷ path ∷ path ∷ path ∷ path ∷ path ∷ []

window : List LayerPlanValue
window = record { number = 0; z = pos 200; thickness = pos 200; fan = 0; lead = 0; plans = record { extruder = 1; paths = ten } ∷ []; inserts = [] } ∷ []

found : ℕ → ℕ → Option ℕ → ℕ
found heating cooling left = place_of window (extruder heating cooling) left 2 9

-- just left, at the front
just_left : found 5000 1000 (Some 0) ≡ 7
unfolding found window ten path extruder
just_left = refl

-- never used
cold : found 5000 1000 None ≡ 5
unfolding found window ten path extruder
cold = refl

-- left a minute before the front
long_left : found 5000 1000 (Some 60000000) ≡ 5
unfolding found window ten path extruder
long_left = refl

-- a need of just the time that is left
exactly : found 5000 1750 (Some 0) ≡ 7
unfolding found window ten path extruder
exactly = refl

-- a need of a little more
a_little_more : found 5000 1751 (Some 0) ≡ 6
unfolding found window ten path extruder
a_little_more = refl

-- a need that no boundary covers: the front
too_slow : found 120 1000 None ≡ 2
unfolding found window ten path extruder
too_slow = refl

-- the needs at the usual rates: never used, just left, left a second ago
need_cold : need_of (extruder 2000 2000) None ≡ 31000000
unfolding extruder
need_cold = refl

need_just_left : need_of (extruder 2000 2000) (Some 0) ≡ 1000000
unfolding extruder
need_just_left = refl

need_left : need_of (extruder 2000 2000) (Some 1000000) ≡ 2000000
unfolding extruder
need_left = refl
