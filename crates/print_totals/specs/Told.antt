-- What the file itself tells of time and filament.
use Rattle.std.specs.Prelude.{ℕ, ◌≡◌, List}
use Rattle.std.specs.List.{All}
use Rattle.plan_types.specs.Plans.{LayerPlanValue}

-- extruder e prints all of these layers
abbrev pub IsAllOf : ℕ → List LayerPlanValue → Type 0
IsAllOf e ls = All (λ l. All (λ x. x.extruder ≡ e) l.plans) ls
