-- What the preheats of a whole plan are, told by its switches one by one.
use Rattle.std.specs.Prelude.{ℕ, ◌<◌, ◌≤◌, ◌≡◌, ◌⊎◌, ◌==◌, Bool, true, false, not, List, [], ◌∷◌, ◌++◌, length}
use Rattle.std.specs.List.{filter}
use Rattle.plan_types.specs.Plans.{LayerPlanValue}
use Rattle.plan_types.specs.Steps.{Step, whole_of}
use Rattle.plan_types.specs.Leads.{origin, with_leads}
use Rattle.preheat_plan.specs.Past.{Rules, extruder_after}
use Rattle.preheat_plan.specs.Preheats.{Preheat, is_covering, front_of, preheats_of}

-- the whole plan of these plans, with the travels to the layers
abbrev pub steps_of : Rules → List LayerPlanValue → List Step
steps_of r plans = whole_of (with_leads r.speed origin plans)

-- the preheats of these plans
abbrev pub preheats_in : Rules → List LayerPlanValue → List Preheat
preheats_in r plans = preheats_of r (with_leads r.speed origin plans)

-- a path that comes after these is a switch: its extruder isn't the one in use
abbrev pub is_switch : Rules → List Step → Step → Bool
is_switch r past s = not (s.extruder == extruder_after r.first past)

-- it is the preheat of the switch at that boundary
abbrev pub is_for : ℕ → Preheat → Bool
is_for boundary p = p.start == boundary

-- The preheat of a switch to this path: for its extruder, from the front to the switch, at a boundary from
-- which the times up to the switch add up to the need there, or at the front; and no later boundary is such.
pub record IsPreheated (r : Rules) (past : List Step) (s : Step) (p : Preheat) : Type 0 where
  pub extruder : p.extruder ≡ s.extruder
  pub start : p.start ≡ length past
  pub from : front_of r past s.layer s.extruder ≤ p.at
  pub to : p.at ≤ length past
  pub covers : (is_covering r past s.extruder p.at ≡ true) ⊎ (p.at ≡ front_of r past s.layer s.extruder)
  pub latest : (b : ℕ) → p.at < b → b ≤ length past → is_covering r past s.extruder b ≡ false

-- a switch has exactly one preheat, which is as said
pub record HasOnePreheat (r : Rules) (preheats : List Preheat) (past : List Step) (s : Step) : Type 0 where
  pub preheat : Preheat
  pub only : filter (is_for (length past)) preheats ≡ preheat ∷ []
  pub stands : IsPreheated r past s preheat
