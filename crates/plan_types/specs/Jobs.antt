-- Jobs as contracts see them, and what holds of each.
use Rattle.std.specs.Prelude.{ℕ, ◌≡◌, ◌≤◌, ◌<◌, true, ◌==◌, unsigned_abs, List, length}
use Rattle.std.specs.List.{All, count_by}
use Rattle.slice_base.specs.declared.points.Pt.{Pt}
use Rattle.slice_base.specs.Limits.{max_layers}
use Rattle.settings_core.specs.Values.{SettingsValue}
use Rattle.plan_types.specs.declared.jobs.LayerAreas.{LayerAreas}
use Rattle.plan_types.specs.declared.plans.ExtruderPlan.{ExtruderPlan}
use Rattle.plan_types.specs.Areas.{IsLoop}
use Rattle.plan_types.specs.Extruders.{has_bit}

-- a job: the record of its fields
pub record JobValue : Type 0 where
  pub settings : SettingsValue
  pub layers : List LayerAreas
  pub skirt : List (List Pt)
  pub first : ℕ
  pub used : ℕ
  pub open_outlines : ℕ

-- a layer of a print with these settings: areas of each mesh, no extruder that isn't there or twice, at most 2 mm high
pub record IsLayer (settings : SettingsValue) (layer : LayerAreas) : Type 0 where
  pub meshes_are : length layer.meshes ≡ length settings.meshes
  pub known : All (λ e. e < length settings.extruders) layer.order
  pub once : (e : ℕ) → count_by (λ k. k == e) layer.order ≤ 1
  pub thin : unsigned_abs layer.thickness ≤ 2000

-- a job as it is made of settings and meshes
pub record IsJob (settings : SettingsValue) (layers : List LayerAreas) (skirt : List (List Pt)) (first used : ℕ)
    : Type 0 where
  pub some : 1 ≤ length settings.meshes
  pub few : length layers ≤ max_layers
  pub layers_are : All (IsLayer settings) layers
  pub skirt_is : All (IsLoop 1600000) skirt
  pub first_is : first < length settings.extruders
  pub used_are : (e : ℕ) → has_bit used e ≡ true → e < length settings.extruders

-- the settings have the extruder that the plan names
abbrev pub Names : SettingsValue → ExtruderPlan → Type 0
Names settings plan = plan.extruder < length settings.extruders
