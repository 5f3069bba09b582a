-- The plans of a job's layers as they are written: with their leads, their times, and the preheats.
use Rattle.std.specs.Prelude.{ℕ, ◌+◌, ◌-◌, ◌<◌, ◌≡◌, Bool, nat_lt, nat_le, ◌&&◌, List, [], ◌∷◌, map}
use Rattle.std.specs.List.{All, filter}
use Rattle.plan_types.specs.Plans.{LayerPlanValue, EachOnce}
use Rattle.plan_types.specs.Steps.{path_count_of}
use Rattle.plan_types.specs.Leads.{origin, with_leads}
use Rattle.plan_types.specs.declared.inserts.Insert.{Insert}
use Rattle.preheat_plan.specs.Past.{Rules}
use Rattle.preheat_plan.specs.Preheats.{Preheat, preheats_of}

-- it stands at one of the n boundaries from this one on
abbrev pub is_within : ℕ → ℕ → Preheat → Bool
is_within at n p = nat_le at p.at && nat_lt p.at (at + n)

-- a preheat in the plan of a layer, whose first boundary is this one
abbrev pub insert_of : (ℕ → ℕ) → ℕ → Preheat → Insert
insert_of degrees at p = record { at = p.at - at; extruder = p.extruder; degrees = degrees p.extruder }

-- the preheats that stand at a layer's n boundaries, in the order of their switches
abbrev pub inserts_at : (ℕ → ℕ) → ℕ → ℕ → List Preheat → List Insert
inserts_at degrees at n ps = map (insert_of degrees at) (filter (is_within at n) ps)

-- plans with the preheats that stand at their boundaries, the first of which is this one
abbrev pub heated_from : (ℕ → ℕ) → ℕ → List Preheat → List LayerPlanValue → List LayerPlanValue
heated_from degrees at ps [] = []
heated_from degrees at ps (l ∷ ls) =
    record l { inserts = inserts_at degrees at (path_count_of l) ps } ∷ heated_from degrees (at + path_count_of l) ps ls

-- the plans with leads, times and preheats
abbrev pub completed_of : Rules → List LayerPlanValue → List LayerPlanValue
completed_of r ls = let led = with_leads r.speed origin ls in heated_from r.degrees 0 (preheats_of r led) led

-- a plan as it is made of a job: extruders by numbers below 8, each once at most, and no preheat
pub record IsFresh (l : LayerPlanValue) : Type 0 where
  pub bare : l.inserts ≡ []
  pub known : All (λ x. x.extruder < 8) l.plans
  pub once : EachOnce l.plans

-- all extruders of a plan have numbers below m
abbrev pub KnowsItsExtruders : ℕ → LayerPlanValue → Type 0
KnowsItsExtruders m l = All (λ x. x.extruder < m) l.plans
