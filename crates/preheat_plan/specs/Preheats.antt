-- Where each switch is preheated.
use Rattle.std.specs.Prelude.{ℕ, ◌-◌, ◌==◌, Bool, cond, nat_le, max, List, [], ◌∷◌, ◌++◌, length}
use Rattle.plan_types.specs.Plans.{LayerPlanValue}
use Rattle.plan_types.specs.Steps.{Step, whole_of}
use Rattle.preheat_core.specs.Need.{latest}
use Rattle.preheat_plan.specs.Past.{Rules, extruder_after, left_of, or_start, boundary_of, time_before, since}

-- a switch's preheat: the boundary where it stands, its extruder, and the boundary of the switch
pub record Preheat : Type 0 where
  pub at : ℕ
  pub extruder : ℕ
  pub start : ℕ

-- the times from a boundary to the end of these paths add up to what e needs there
abbrev pub is_covering : Rules → List Step → ℕ → ℕ → Bool
is_covering r past e b =
    nat_le (r.need e (since past (left_of e past) b)) (time_before past (length past) - time_before past b)

-- the front for a switch to e in a layer: the first boundary of the window, or, where that is later, where e was left
abbrev pub front_of : Rules → List Step → ℕ → ℕ → ℕ
front_of r past layer e = max (boundary_of (layer - r.window) past) (or_start (left_of e past))

-- the preheat of a switch to this path: at the greatest boundary from the front on that covers, else at the front
abbrev pub preheat_of : Rules → List Step → Step → Preheat
preheat_of r past s =
    let front = front_of r past s.layer s.extruder in
    record {
      at = latest (is_covering r past s.extruder) front (length past - front);
      extruder = s.extruder;
      start = length past;
    }

-- a path that comes after these is preheated where its extruder isn't the one in use
abbrev pub preheat_at : Rules → List Step → Step → List Preheat
preheat_at r past s = cond (s.extruder == extruder_after r.first past) [] (preheat_of r past s ∷ [])

-- the preheats of paths that come after these, one after another
abbrev pub preheats_after : Rules → List Step → List Step → List Preheat
preheats_after r past [] = []
preheats_after r past (s ∷ ss) = preheat_at r past s ++ preheats_after r (past ++ s ∷ []) ss

-- the preheats of the whole plan
abbrev pub preheats_of : Rules → List LayerPlanValue → List Preheat
preheats_of r ls = preheats_after r [] (whole_of ls)
