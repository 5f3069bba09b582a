-- Drawing one part after another.
use Rattle.std.proofs.Common.{◌≡◌, ◌≤◌, ◌-◌, ℕ, suc, List, [], ◌∷◌, ◌++◌, length, get_or, refl, sym, ap, ◌∙◌, arith, true, false, Bool}
use Rattle.std.proofs.lemmas.List.{append_assoc}
use Rattle.slice_base.specs.declared.points.Pt.{Pt}
use Rattle.settings_core.specs.Values.{ExtruderSettingsValue as ExtruderSettings}
use Rattle.plan_types.specs.Areas.{MeshAreasValue as MeshAreas}
use Rattle.plan_types.specs.Jobs.{JobValue as Job}
use Rattle.plan_types.specs.declared.plans.ExtruderPlan.{ExtruderPlan}
use Rattle.layer_plan.specs.declared.groups.Sheet.{Sheet}
use Rattle.layer_plan.specs.declared.groups.Pen.{Pen}
use Rattle.layer_plan.specs.declared.groups.Group.{Group}
use Rattle.layer_plan.specs.declared.drawing.Drawing.{Drawing}
use Rattle.layer_plan.specs.Drawing.{last_or, with_way, with_ways, with_group, with_groups}
use Rattle.layer_plan.specs.Plan.{drawn, drawn_plans}

pub with_ways-append : (e : ExtruderSettings) (pen : Pen) (d : Drawing) (vs ws : List (List Pt)) → with_ways e pen d (vs ++ ws) ≡ with_ways e pen (with_ways e pen d vs) ws
with_ways-append e pen d [] ws = refl
with_ways-append e pen d (v ∷ vs) ws = with_ways-append e pen (with_way e pen d v) vs ws

pub with_groups-append : (e : ExtruderSettings) (d : Drawing) (gs hs : List Group) → with_groups e d (gs ++ hs) ≡ with_groups e (with_groups e d gs) hs
with_groups-append e d [] hs = refl
with_groups-append e d (g ∷ gs) hs = with_groups-append e (with_group e d g) gs hs

pub last_or-last : (at : Pt) (ps : List Pt) (d : Pt) → 1 ≤ length ps → get_or ps (length ps - 1) d ≡ last_or at ps
last_or-last at [] d h = absurd (omega arith)
last_or-last at (p ∷ []) d h = refl
last_or-last at (p ∷ q ∷ ps) d h =
    let e : suc (suc (length ps)) - 1 ≡ suc (suc (length ps) - 1) = omega arith in
    ap (λ (k : ℕ). get_or (p ∷ q ∷ ps) k d) e ∙ last_or-last p (q ∷ ps) d (omega arith)

-- the plan of one extruder more
pub drawn_plans-more : (job : Job) (sheet : Sheet) (areas : List MeshAreas) (first : Bool) (at : Pt) (x : ℕ) (rest : List ℕ) (plans more whole : List ExtruderPlan) (d : Drawing) → d ≡ drawn job sheet areas first at x → more ≡ plans ++ record { extruder = x; paths = d.paths } ∷ [] → plans ++ drawn_plans job sheet areas first at (x ∷ rest) ≡ whole → more ++ drawn_plans job sheet areas false d.at rest ≡ whole
drawn_plans-more job sheet areas first at x rest plans more whole d is pushed h =
    ap (λ (xs : List ExtruderPlan). xs ++ drawn_plans job sheet areas false d.at rest) pushed
    ∙ append_assoc plans (record { extruder = x; paths = d.paths } ∷ []) (drawn_plans job sheet areas false d.at rest)
    ∙ ap (λ (e : Drawing). plans ++ record { extruder = x; paths = e.paths } ∷ drawn_plans job sheet areas false e.at rest) is
    ∙ h
