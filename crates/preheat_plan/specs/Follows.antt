-- A window follows the plans that were taken, the first n of which were let go.
use Rattle.std.specs.Prelude.{ℕ, ◌+◌, ◌-◌, ◌<◌, ◌≡◌, List, [], ◌∷◌, ◌++◌, length, take, drop, slice_index_or, Option, Some, None}
use Rattle.std.specs.List.{All, sum_by}
use Rattle.plan_types.specs.Plans.{LayerPlanValue}
use Rattle.plan_types.specs.Steps.{Step, whole_of, path_counts_of}
use Rattle.plan_types.specs.Leads.{origin, with_leads, end_of_layers}
use Rattle.preheat_plan.specs.Past.{Rules, extruder_after, left_of, time_before}
use Rattle.preheat_plan.specs.Completed.{completed_of, IsFresh, KnowsItsExtruders}
use Rattle.preheat_plan.specs.Held.{Held, left_at, taken, let_go, nothing_held}
use Rattle.preheat_plan.specs.declared.uses.Left.{Left}

-- where an extruder was left, with the time before
abbrev pub timed_left : List Step → Option ℕ → Option Left
timed_left past None = None
timed_left past (Some b) = Some (left_at b (time_before past b))

-- what is held is the rest of the completed plans, and what is remembered is what the plans so far say
pub record Follows (r : Rules) (ls : List LayerPlanValue) (n : ℕ) (h : Held) : Type 0 where
  pub plans : h.plans ≡ drop n (completed_of r ls)
  pub base : h.base ≡ path_counts_of (take n ls)
  pub base_time : h.base_time ≡ sum_by (λ s. s.time) (whole_of (take n (with_leads r.speed origin ls)))
  pub next : h.next ≡ path_counts_of ls
  pub end : h.end ≡ end_of_layers origin ls
  pub current : h.current ≡ extruder_after r.first (whole_of (with_leads r.speed origin ls))
  pub size : length h.left ≡ 8
  pub left : (e : ℕ) → e < 8
      → slice_index_or h.left e None
      ≡ timed_left (whole_of (with_leads r.speed origin ls)) (left_of e (whole_of (with_leads r.speed origin ls)))

-- The laws of windows: one that holds nothing follows no plans; with the next plan taken it follows one plan
-- more, holds one plan more, and no extruder is named that wasn't before; with the oldest let go it follows
-- the same plans; and of each plan one is completed.
pub record WindowLaws : Type 0 where
  pub start : (r : Rules) → Follows r [] 0 (nothing_held r.first origin)
  pub take : (r : Rules) (ls : List LayerPlanValue) (l : LayerPlanValue) (h : Held) → All IsFresh (ls ++ l ∷ [])
      → Follows r ls (length ls - r.window) h → Follows r (ls ++ l ∷ []) (length ls - r.window) (taken r l h)
  pub let_go : (r : Rules) (ls : List LayerPlanValue) (n : ℕ) (p : LayerPlanValue) (others : List LayerPlanValue)
      (h : Held) → h.plans ≡ p ∷ others → Follows r ls n h → Follows r ls (n + 1) (let_go p others h)
  pub longer : (r : Rules) (l : LayerPlanValue) (h : Held) → length (taken r l h).plans ≡ length h.plans + 1
  pub known : (r : Rules) (m : ℕ) (l : LayerPlanValue) (h : Held) → All (λ x. x.extruder < m) l.plans
      → All (KnowsItsExtruders m) h.plans → All (KnowsItsExtruders m) (taken r l h).plans
  pub count : (r : Rules) (ls : List LayerPlanValue) → length (completed_of r ls) ≡ length ls
