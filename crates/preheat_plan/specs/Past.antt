-- What the paths so far say. The boundary b of the whole plan stands right before its path b.
use Rattle.std.specs.Prelude.{ℕ, suc, ◌-◌, ◌==◌, cond, nat_lt, List, [], ◌∷◌, take, Option, Some, None}
use Rattle.std.specs.List.{sum_by, count_by}
use Rattle.plan_types.specs.Extruders.{extruder_of}
use Rattle.plan_types.specs.Jobs.{JobValue}
use Rattle.plan_types.specs.Steps.{Step}
use Rattle.preheat_core.specs.Need.{need_of}

-- what a job says of preheats: the extruder at the start, how many layers before its own a preheat may stand,
-- and of each extruder the time that it needs, by the time since it was left, its print temperature, and the
-- speed of its travels
pub record Rules : Type 0 where
  pub first : ℕ
  pub window : ℕ
  pub need : ℕ → Option ℕ → ℕ
  pub degrees : ℕ → ℕ
  pub speed : ℕ → ℕ

-- the rules of a job
abbrev pub rules_of : JobValue → Rules
rules_of job = record {
  first = job.first;
  window = job.settings.preheat_window_layers;
  need = λ e since. need_of (extruder_of job.settings.extruders e) since;
  degrees = λ e. (extruder_of job.settings.extruders e).material_print_temperature;
  speed = λ e. (extruder_of job.settings.extruders e).speed_travel;
}

-- the extruder in use after these paths, which began with e
abbrev pub extruder_after : ℕ → List Step → ℕ
extruder_after e [] = e
extruder_after e (s ∷ ss) = extruder_after s.extruder ss

-- the boundary where e was last left: right behind its last path, the paths being counted on from `at`
abbrev pub left_from : ℕ → ℕ → Option ℕ → List Step → Option ℕ
left_from e at left [] = left
left_from e at left (s ∷ ss) = left_from e (suc at) (cond (s.extruder == e) (Some (suc at)) left) ss

-- the boundary where e was last left; none where it was never used
abbrev pub left_of : ℕ → List Step → Option ℕ
left_of e past = left_from e 0 None past

-- an extruder that was never used counts from the start
abbrev pub or_start : Option ℕ → ℕ
or_start None = 0
or_start (Some b) = b

-- the first boundary of a layer: the paths of the layers below stand before it
abbrev pub boundary_of : ℕ → List Step → ℕ
boundary_of layer past = count_by (λ s. nat_lt s.layer layer) past

-- the time of the paths before a boundary, µs
abbrev pub time_before : List Step → ℕ → ℕ
time_before past b = sum_by (λ s. s.time) (take b past)

-- the time from where an extruder was left to a boundary
abbrev pub since : List Step → Option ℕ → ℕ → Option ℕ
since past None b = None
since past (Some left) b = Some (time_before past b - time_before past left)
