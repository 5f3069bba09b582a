-- Two plates side by side, the second printed by extruder 1: where the preheats stand, worked out.
use Rattle.std.proofs.Common.{ℕ, ◌≡◌, true, List, [], ◌∷◌, map, Some, None, refl}
use Rattle.settings_core.specs.Values.{ExtruderSettingsValue as ExtruderSettings}
use Rattle.plan_types.specs.Steps.{Step}
use Rattle.preheat_core.specs.Need.{need_of}
use Rattle.preheat_plan.specs.Past.{Rules}
use Rattle.preheat_plan.specs.Preheats.{Preheat, preheats_after}

extruder : ℕ → ExtruderSettings
extruder rate = record {
  material_print_temperature = 210;
  material_standby_temperature = 150;
  machine_nozzle_heat_up_speed = rate;
  machine_nozzle_cool_down_speed = 2000;
  material_diameter = 1750;
  material_flow = 100;
  retraction_enable = true;
  retraction_amount = 6500;
  retraction_speed = 25000;
  retraction_min_travel = 1500;
  speed_travel = 120000;
}

rules : ℕ → Rules
rules rate = record { first = 0; window = 5; need = λ e since. need_of (extruder rate) since; degrees = λ e. 210; speed = λ e. 120000 }

steps : List Step
steps =
    record { layer = 0; extruder = 0; time = 4196353 } ∷ record { layer = 0; extruder = 1; time = 3383336 } ∷
    record { layer = 1; extruder = 1; time = 3133336 } ∷ record { layer = 1; extruder = 0; time = 3220003 } ∷ []

spots : ℕ → List ℕ
spots rate = map (λ (p : Preheat). p.at) (preheats_after (rules rate) [] steps)

-- at 100 degrees a second and at 4, at the first boundary of layer 1
fast : spots 100000 ≡ 0 ∷ 2 ∷ []
unfolding spots rules steps extruder
fast = refl

slower : spots 4000 ≡ 0 ∷ 2 ∷ []
unfolding spots rules steps extruder
slower = refl

-- at 0.12 degrees a second at the window's front, the switch away from it
slow : spots 120 ≡ 0 ∷ 1 ∷ []
unfolding spots rules steps extruder
slow = refl

-- Twelve layers of one plate and then another on top of it, which is printed by extruder 1 from layer 10 on: 21
-- seconds of heating take more than the window has
tower : List Step
tower =
    record { layer = 0; extruder = 0; time = 4196353 } ∷ record { layer = 1; extruder = 0; time = 3133336 } ∷
    record { layer = 10; extruder = 1; time = 3133336 } ∷ record { layer = 11; extruder = 1; time = 3133336 } ∷ []

tower_spots : ℕ → List ℕ
tower_spots window = map (λ (p : Preheat). p.at) (preheats_after (record (rules 2000) { window = window }) [] tower)

-- with a window of 5 layers before layer 10's own path, with 9 before that of layer 1, with 12 before that of layer 0
five : tower_spots 5 ≡ 2 ∷ []
unfolding tower_spots tower rules extruder
five = refl

nine : tower_spots 9 ≡ 1 ∷ []
unfolding tower_spots tower rules extruder
nine = refl

twelve : tower_spots 12 ≡ 0 ∷ []
unfolding tower_spots tower rules extruder
twelve = refl
