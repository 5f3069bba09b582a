-- A window part of the way through the paths of a plan.
use Rattle.std.specs.Prelude.{ℕ, ◌<◌, ◌≡◌, List, ◌++◌, length, slice_index_or, None}
use Rattle.std.specs.List.{sum_by}
use Rattle.plan_types.specs.Plans.{LayerPlanValue}
use Rattle.plan_types.specs.Steps.{Step}
use Rattle.preheat_plan.specs.Past.{Rules, extruder_after, left_of}
use Rattle.preheat_plan.specs.Preheats.{Preheat}
use Rattle.preheat_plan.specs.Completed.{heated_from}
use Rattle.preheat_plan.specs.Held.{Held}
use Rattle.preheat_plan.specs.Follows.{timed_left}

-- what is remembered after paths of which `old` are before the held plans, whose form without preheats is `bare`
pub record IsAt (r : Rules) (old more : List Step) (bare : List LayerPlanValue) (ps : List Preheat) (h : Held)
    : Type 0 where
  pub base : h.base ≡ length old
  pub base_time : h.base_time ≡ sum_by (λ s. s.time) old
  pub plans : h.plans ≡ heated_from r.degrees h.base ps bare
  pub next : h.next ≡ length (old ++ more)
  pub current : h.current ≡ extruder_after r.first (old ++ more)
  pub size : length h.left ≡ 8
  pub left : (e : ℕ) → e < 8 → slice_index_or h.left e None ≡ timed_left (old ++ more) (left_of e (old ++ more))
