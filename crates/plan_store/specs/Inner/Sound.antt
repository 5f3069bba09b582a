-- What keeps the numbers of a window in range.
use Rattle.std.specs.Prelude.{ℕ, ◌+◌, ◌*◌, ◌^◌, ◌≡◌, ◌≤◌, ◌<◌, List, length, slice_index_or, None}
use Rattle.std.specs.List.{All, sum}
use Rattle.slice_base.specs.Plane.{InSquare}
use Rattle.plan_types.specs.Plans.{LayerPlanValue}
use Rattle.plan_types.specs.Steps.{path_count_of, path_counts_of}
use Rattle.preheat_core.specs.Times.{all_times, IsTimed}
use Rattle.preheat_plan.specs.Held.{Held, at_of}
use Rattle.plan_store.specs.declared.marks.Marks.{Marks}

-- plans and what is remembered beside them
abbrev pub held_of : List LayerPlanValue → Marks → Held
held_of plans m = record {
  plans = plans;
  base = m.base;
  base_time = m.base_time;
  next = m.next;
  end = m.end;
  current = m.current;
  left = m.left;
}

-- the boundary behind the last of the plans
abbrev pub end_of_held : List LayerPlanValue → Marks → ℕ
end_of_held plans m = m.base + path_counts_of plans

-- the numbers of a window that took so many plans
pub record IsSound (plans : List LayerPlanValue) (m : Marks) : Type 0 where
  pub base : m.base ≤ m.next
  pub next : m.next ≤ end_of_held plans m
  pub left : (e : ℕ) → at_of (slice_index_or m.left e None) ≤ m.next
  pub size : length m.left ≡ 8
  pub small : All (λ l. path_count_of l < 2 ^ 40) plans
  pub timed : All IsTimed plans
  pub time : m.base_time + sum (all_times plans) ≤ m.taken * 2 ^ 84
  pub paths : end_of_held plans m ≤ m.taken * 2 ^ 40
  pub few : m.taken ≤ 40000
  pub inside : InSquare 1700000 m.end

-- all paths of its plans were taken
pub record IsWhole (plans : List LayerPlanValue) (m : Marks) : Type 0 where
  pub sound : IsSound plans m
  pub all : m.next ≡ end_of_held plans m
