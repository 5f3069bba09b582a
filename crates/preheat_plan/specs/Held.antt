-- What a window of held plans does with the next plan, and what it remembers of the plans before.
use Rattle.std.specs.Prelude.{ℕ, ◌+◌, ◌-◌, ◌==◌, Bool, nat_le, nat_lt, cond, max, List, [], ◌∷◌, ◌++◌, length, map, slice_set, slice_index_or, Option, Some, None}
use Rattle.std.specs.List.{sum}
use Rattle.slice_base.specs.declared.points.Pt.{Pt}
use Rattle.plan_types.specs.declared.plans.ExtruderPlan.{ExtruderPlan}
use Rattle.plan_types.specs.Plans.{LayerPlanValue}
use Rattle.plan_types.specs.Inserts.{with_insert}
use Rattle.plan_types.specs.Steps.{path_count_of}
use Rattle.plan_types.specs.Leads.{with_lead, end_of_plans}
use Rattle.preheat_core.specs.Need.{latest}
use Rattle.preheat_core.specs.Times.{times_of, elapsed_of}
use Rattle.preheat_core.specs.Places.{since_at}
use Rattle.preheat_plan.specs.Past.{Rules}
use Rattle.preheat_plan.specs.declared.uses.Left.{Left}
use Rattle.preheat_plan.specs.declared.uses.Use.{Use}

-- a boundary with the time before it
abbrev pub left_at : ℕ → ℕ → Left
left_at at time = record { at = at; time = time }

-- the held plans; how many paths stand before them, and their time; how many paths were taken; where one
-- stands; the extruder in use; and where each of eight extruders was left
pub record Held : Type 0 where
  pub plans : List LayerPlanValue
  pub base : ℕ
  pub base_time : ℕ
  pub next : ℕ
  pub end : Pt
  pub current : ℕ
  pub left : List (Option Left)

-- the use of an extruder by a layer
abbrev pub use_of : ExtruderPlan → Use
use_of x = record { extruder = x.extruder; count = length x.paths }

-- a preheat of e before path n of a layer
abbrev pub with_insert_at : ℕ → ℕ → ℕ → LayerPlanValue → LayerPlanValue
with_insert_at n e degrees l =
    record l { inserts = with_insert (record { at = n; extruder = e; degrees = degrees }) l.inserts }

-- a preheat of e before path n of the held plans
abbrev pub put_at : ℕ → ℕ → ℕ → List LayerPlanValue → List LayerPlanValue
put_at n e degrees [] = []
put_at n e degrees (l ∷ ls) =
    cond (nat_lt n (path_count_of l)) (with_insert_at n e degrees l ∷ ls)
    (l ∷ put_at (n - path_count_of l) e degrees ls)

-- where e was left
abbrev pub left_of_held : ℕ → Held → Option Left
left_of_held e h = slice_index_or h.left e None

-- an extruder that was never used counts from the start
abbrev pub at_of : Option Left → ℕ
at_of None = 0
at_of (Some l) = l.at

-- the front for a switch to e, counted from the first of the held plans on
abbrev pub front_in : ℕ → Held → ℕ
front_in e h = max h.base (at_of (left_of_held e h)) - h.base

-- the time from where an extruder was left to a boundary of the held plans
abbrev pub left_time : ℕ → List LayerPlanValue → ℕ → Option Left → Option ℕ
left_time base_time ls front None = None
left_time base_time ls front (Some l) = Some (base_time + elapsed_of ls front - l.time)

-- the times from a boundary of the held plans to the start add up to the need there
abbrev pub covers_in : (Option ℕ → ℕ) → List LayerPlanValue → Option ℕ → ℕ → ℕ → ℕ → Bool
covers_in need ls left front start b = nat_le (need (since_at ls front left b)) (elapsed_of ls start - elapsed_of ls b)

-- the greatest of the boundaries of the held plans that covers, else the front
abbrev pub placed_in : (Option ℕ → ℕ) → List LayerPlanValue → Option ℕ → ℕ → ℕ → ℕ
placed_in need ls left front start = latest (covers_in need ls left front start) front (start - front)

-- the place of a preheat of e for a switch at the next path
abbrev pub place_in : Rules → ℕ → Held → ℕ
place_in r e h =
    placed_in (r.need e) h.plans
    (left_time h.base_time h.plans (front_in e h) (left_of_held e h)) (front_in e h) (h.next - h.base)

-- a switch to e puts its preheat into the held plans
abbrev pub heated : Rules → ℕ → Held → Held
heated r e h = record h { plans = put_at (place_in r e h) e (r.degrees e) h.plans; current = e }

-- it is a switch where e isn't in use
abbrev pub switched : Rules → ℕ → Held → Held
switched r e h = cond (e == h.current) h (heated r e h)

-- n paths of e on, where e is left again
abbrev pub moved : ℕ → ℕ → Held → Held
moved e n h = record h {
  next = h.next + n;
  left = slice_set h.left e (Some (left_at (h.next + n) (h.base_time + elapsed_of h.plans (h.next + n - h.base))));
}

-- one use on; a use without a path is none
abbrev pub used : Rules → Use → Held → Held
used r u h = cond (u.count == 0) h (moved u.extruder u.count (switched r u.extruder h))

-- uses on, one after another
abbrev pub used_all : Rules → List Use → Held → Held
used_all r [] h = h
used_all r (u ∷ us) h = used_all r us (used r u h)

-- the next plan with its lead and its times, behind the others
abbrev pub pushed : Rules → LayerPlanValue → Held → Held
pushed r l h = record h { plans = h.plans ++ with_lead r.speed h.end l ∷ []; end = end_of_plans h.end l.plans }

-- the next plan is taken: it is held, and its preheats are put into the held plans
abbrev pub taken : Rules → LayerPlanValue → Held → Held
taken r l h = used_all r (map use_of l.plans) (pushed r l h)

-- the oldest plan is let go, and the others are held
abbrev pub let_go : LayerPlanValue → List LayerPlanValue → Held → Held
let_go oldest others h = record h {
  plans = others;
  base = h.base + path_count_of oldest;
  base_time = h.base_time + sum (times_of oldest);
}

-- nothing is held, and no extruder was used; e is in use
abbrev pub nothing_held : ℕ → Pt → Held
nothing_held e at = record {
  plans = [];
  base = 0;
  base_time = 0;
  next = 0;
  end = at;
  current = e;
  left = None ∷ None ∷ None ∷ None ∷ None ∷ None ∷ None ∷ None ∷ [];
}
