-- Layers of a job, one after another.
use Rattle.std.proofs.Common.{◌≡◌, ◌∙◌, ◌<◌, ◌≤◌, ◌+◌, ◌^◌, ◌*◌, ◌%◌, ℕ, zero, suc, Bool, true, false, not, ◌&&◌, List, [], ◌∷◌, ◌++◌, length, get_or, arith, refl, sym, ap}
use Rattle.std.specs.Prelude.{◌==◌}
use Rattle.std.specs.List.{All, filter}
use Rattle.std.proofs.lemmas.List.{get_or_default}
use Rattle.std.proofs.lemmas.List.Elements.{All-append, All-weaker, filter_passes}
use Rattle.slice_base.specs.declared.points.Pt.{Pt}
use Rattle.slice_base.specs.Outcomes.{up_to}
use Rattle.settings_core.specs.Values.{SettingsValue, MeshSettingsValue}
use Rattle.wall_skin.specs.declared.skins.Split.{Split}
use Rattle.wall_skin.specs.Skin.{skin_of}
use Rattle.plan_types.specs.Areas.{MeshAreasValue}
use Rattle.plan_types.specs.declared.jobs.LayerAreas.{LayerAreas}
use Rattle.plan_types.specs.Extruders.{has_bit}
use Rattle.plan_types.specs.Orders.{all_extruders, is_kept_on, is_changed_to, extruder_order_of}
use Rattle.area_stage.specs.Faults.{named}
use Rattle.area_stage.specs.Meshes.{no_mesh_settings, mesh_settings_of}
use Rattle.area_stage.specs.Fills.{mesh_split_of, layer_splits_of}
use Rattle.area_stage.specs.Extruders.{wanted_of, last_of}
use Rattle.area_stage.specs.Jobs.{areas_of, areas_on, all_areas_of, layer_of, layers_from}
use Rattle.area_stage.specs.Inner.Layers.{AreBelow}
use Rattle.area_stage.proofs.Inners.{moved}

-- ---- settings of a mesh

pub settings-at : (s : SettingsValue) (i : ℕ) (m : MeshSettingsValue) → i < length s.meshes → m ≡ mesh_settings_of s i → m ≡ get_or s.meshes i m
settings-at s i m below is = is ∙ get_or_default s.meshes i no_mesh_settings m below

-- ---- skin and fill

pub splits-are : (s : SettingsValue) (inners : List (List (List (List Pt)))) (layer n : ℕ) → n ≡ length s.meshes → up_to (mesh_split_of s inners layer) n ≡ layer_splits_of s inners layer
unfolding layer_splits_of
splits-are s inners layer n e = ap (λ (k : ℕ). up_to (mesh_split_of s inners layer) k) e

pub split-at : (s : SettingsValue) (inners : List (List (List (List Pt)))) (layer i : ℕ) (m : MeshSettingsValue) (column : List (List (List Pt))) → i < length inners → column ≡ get_or inners i column → m ≡ mesh_settings_of s i
    → named i layer (skin_of column layer m.bottom_layers m.top_layers) ≡ mesh_split_of s inners layer i
split-at s inners layer i m column below at is =
    let c : column ≡ get_or inners i [] = at ∙ get_or_default inners i column [] below in
    ap (λ (l : List (List (List Pt))). named i layer (skin_of l layer m.bottom_layers m.top_layers)) c
    ∙ ap (λ (n : MeshSettingsValue). named i layer (skin_of (get_or inners i []) layer n.bottom_layers n.top_layers)) is

-- ---- areas

pub areas-step : (done new : List MeshAreasValue) (ws rw_ : List (List (List (List Pt)))) (ss rs : List Split) (w : List (List (List Pt))) (s : Split) (whole : List MeshAreasValue) → ws ≡ w ∷ rw_ → ss ≡ s ∷ rs → new ≡ done ++ areas_of w s ∷ []
    → done ++ areas_on ws ss ≡ whole → new ++ areas_on rw_ rs ≡ whole
areas-step done new ws rw_ ss rs w s whole ew es pushed so_far =
    moved done new (areas_on ws ss) (areas_on rw_ rs) whole (areas_of w s)
    (ap (λ (l : List (List (List (List Pt)))). areas_on l ss) ew ∙ ap (λ (l : List Split). areas_on (w ∷ rw_) l) es) pushed so_far

pub all-areas-step : (done new : List (List MeshAreasValue)) (ws rw_ : List (List (List (List (List Pt))))) (ss rs : List (List Split)) (w : List (List (List (List Pt)))) (s : List Split) (a : List MeshAreasValue) (whole : List (List MeshAreasValue)) → ws ≡ w ∷ rw_ → ss ≡ s ∷ rs
    → a ≡ areas_on w s → new ≡ done ++ a ∷ [] → done ++ all_areas_of ws ss ≡ whole → new ++ all_areas_of rw_ rs ≡ whole
all-areas-step done new ws rw_ ss rs w s a whole ew es is pushed so_far =
    moved done new (all_areas_of ws ss) (all_areas_of rw_ rs) whole a
    (ap (λ (l : List (List (List (List (List Pt))))). all_areas_of l ss) ew ∙ (ap (λ (l : List (List Split)). all_areas_of (w ∷ rw_) l) es ∙ ap (λ (l : List MeshAreasValue). l ∷ all_areas_of rw_ rs) (sym is))) pushed so_far

-- ---- layers

pub layers-step : (s : SettingsValue) (done new : List LayerAreas) (k before next : ℕ) (all rest : List (List MeshAreasValue)) (a : List MeshAreasValue) (layer : LayerAreas) (order : List ℕ) (whole : List LayerAreas) → all ≡ a ∷ rest → layer ≡ layer_of s k before a → order ≡ layer.order → next ≡ last_of before order
    → new ≡ done ++ layer ∷ [] → done ++ layers_from s k before all ≡ whole → new ++ layers_from s (k + 1) next rest ≡ whole
layers-step s done new k before next all rest a layer order whole ea el eo en pushed so_far =
    let o : order ≡ extruder_order_of before (wanted_of s a) = eo ∙ ap (λ (l : LayerAreas). l.order) el in
    let n : next ≡ last_of before (extruder_order_of before (wanted_of s a)) = en ∙ ap (last_of before) o in
    moved done new (layers_from s k before all) (layers_from s (k + 1) next rest) whole layer
    (ap (λ (l : List (List MeshAreasValue)). layers_from s k before l) ea
    ∙ (ap (λ (l : LayerAreas). l ∷ layers_from s (k + 1) (last_of before (extruder_order_of before (wanted_of s a))) rest) (sym el)
    ∙ ap (λ (j : ℕ). layer ∷ layers_from s (k + 1) j rest) (sym n))) pushed so_far

first-of-both : (a b : Bool) → (a && b) ≡ true → a ≡ true
first-of-both true b h = refl
first-of-both false b h = absurd (cc)

-- the order has no extruder that isn't wanted
pub order-known : (n last wanted : ℕ) → AreBelow n wanted → All (λ (e : ℕ). e < n) (extruder_order_of last wanted)
order-known n last wanted known =
    All-append (λ (e : ℕ). e < n) (filter (is_kept_on last wanted) all_extruders) (filter (is_changed_to last wanted) all_extruders)
    (All-weaker (λ (e : ℕ). is_kept_on last wanted e ≡ true) (λ (e : ℕ). e < n) (λ e h. known e (first-of-both (has_bit wanted e) (e == last) h)) (filter (is_kept_on last wanted) all_extruders) (filter_passes (is_kept_on last wanted) all_extruders))
    (All-weaker (λ (e : ℕ). is_changed_to last wanted e ≡ true) (λ (e : ℕ). e < n) (λ e h. known e (first-of-both (has_bit wanted e) (not (e == last)) h)) (filter (is_changed_to last wanted) all_extruders) (filter_passes (is_changed_to last wanted) all_extruders))

pub power-small : (k : ℕ) → k ≤ 7 → 1 * 2 ^ k % 256 ≡ 2 ^ k
power-small zero h = refl
power-small (suc zero) h = refl
power-small (suc (suc zero)) h = refl
power-small (suc (suc (suc zero))) h = refl
power-small (suc (suc (suc (suc zero)))) h = refl
power-small (suc (suc (suc (suc (suc zero))))) h = refl
power-small (suc (suc (suc (suc (suc (suc zero)))))) h = refl
power-small (suc (suc (suc (suc (suc (suc (suc zero))))))) h = refl
power-small (suc (suc (suc (suc (suc (suc (suc (suc k)))))))) h = absurd (omega (arith, h))
