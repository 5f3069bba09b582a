-- At most sixteen preheats stand at one layer's boundaries, also while only some paths were seen: whatever the window.
use Rattle.std.proofs.Common.{ℕ, suc, ◌+◌, ◌≤◌, ◌<◌, ◌≡◌, ◌==◌, cond, List, [], ◌∷◌, ◌++◌, map, length, refl, ap, sym, ◌∙◌, subst, arith}
use Rattle.std.specs.List.{All, filter, flat_map, count_by}
use Rattle.std.proofs.lemmas.List.{length-append, length-map}
use Rattle.std.proofs.lemmas.List.Elements.{filter-append, All-append, All-nil, All-cons, All-head, All-tail}
use Rattle.std.proofs.lemmas.Bool.{cond_both}
use Rattle.plan_types.specs.Paths.{PathValue as Path}
use Rattle.plan_types.specs.declared.plans.ExtruderPlan.{ExtruderPlan}
use Rattle.plan_types.specs.declared.inserts.Insert.{Insert}
use Rattle.plan_types.specs.Plans.{LayerPlanValue as LayerPlan}
use Rattle.plan_types.specs.Steps.{Step, whole_of, steps_from, steps_of_layer, steps_of_plan, steps_with_lead, path_count_of, path_counts_of}
use Rattle.preheat_plan.specs.Past.{Rules, extruder_after}
use Rattle.preheat_plan.specs.Preheats.{Preheat, preheat_of, preheat_at, preheats_after, preheats_of}
use Rattle.preheat_plan.specs.Completed.{is_within, insert_of, inserts_at}
use Rattle.preheat_plan.proofs.Lists.{preheats_after-append}
use Rattle.preheat_plan.proofs.Few.{law_few}

abbrev pub IsKnown : LayerPlan → Type 0
IsKnown l = All (λ x. x.extruder < 8) l.plans

abbrev Low : Step → Type 0
Low s = s.extruder < 8

map_known : (layer e : ℕ) (ps : List Path) → e < 8 → All {X = Step} Low (map (λ p. record { layer = layer; extruder = e; time = p.time }) ps)
map_known layer e [] h = All-nil Low
map_known layer e (p ∷ ps) h = All-cons Low (record { layer = layer; extruder = e; time = p.time }) _ h (map_known layer e ps h)

flat_known : (layer : ℕ) (xs : List ExtruderPlan) → All (λ x. x.extruder < 8) xs → All Low (flat_map (steps_of_plan layer) xs)
flat_known layer [] h = All-nil Low
flat_known layer (x ∷ xs) h = All-append Low (steps_of_plan layer x) (flat_map (steps_of_plan layer) xs) (map_known layer x.extruder x.paths (All-head (λ (x : ExtruderPlan). x.extruder < 8) x xs h)) (flat_known layer xs (All-tail (λ (x : ExtruderPlan). x.extruder < 8) x xs h))

led_known : (lead : ℕ) (ss : List Step) → All Low ss → All Low (steps_with_lead lead ss)
led_known lead [] h = h
led_known lead (s ∷ ss) h = All-cons Low (record s { time = lead + s.time }) ss (All-head Low s ss h) (All-tail Low s ss h)

pub steps_known : (layer : ℕ) (ls : List LayerPlan) → All IsKnown ls → All Low (steps_from layer ls)
steps_known layer [] h = All-nil Low
steps_known layer (l ∷ ls) h = All-append Low (steps_of_layer layer l) (steps_from (suc layer) ls) (led_known l.lead (flat_map (steps_of_plan layer) l.plans) (flat_known layer l.plans (All-head IsKnown l ls h))) (steps_known (suc layer) ls (All-tail IsKnown l ls h))

abbrev LowHeat : Preheat → Type 0
LowHeat p = p.extruder < 8

pub preheats_known : (r : Rules) (past ss : List Step) → All Low ss → All LowHeat (preheats_after r past ss)
preheats_known r past [] h = All-nil LowHeat
preheats_known r past (s ∷ ss) h =
    let one : All LowHeat (preheat_at r past s) = cond_both (s.extruder == extruder_after r.first past) [] (preheat_of r past s ∷ []) (All LowHeat) (λ t. All-nil LowHeat) (λ t. All-cons LowHeat (preheat_of r past s) [] (All-head Low s ss h) (All-nil LowHeat)) in
    All-append LowHeat (preheat_at r past s) (preheats_after r (past ++ s ∷ []) ss) one (preheats_known r (past ++ s ∷ []) ss (All-tail Low s ss h))

abbrev LowInsert : Insert → Type 0
LowInsert i = i.extruder < 8

pub inserts_known : (d : ℕ → ℕ) (at n : ℕ) (ps : List Preheat) → All LowHeat ps → All LowInsert (inserts_at d at n ps)
inserts_known d at n [] h = All-nil LowInsert
inserts_known d at n (p ∷ ps) h =
    let rest = inserts_known d at n ps (All-tail LowHeat p ps h) in
    cond_both (is_within at n p) (p ∷ filter (is_within at n) ps) (filter (is_within at n) ps) (λ (qs : List Preheat). All LowInsert (map (insert_of d at) qs)) (λ t. All-cons LowInsert (insert_of d at p) (map (insert_of d at) (filter (is_within at n) ps)) (All-head LowHeat p ps h) rest) (λ t. rest)

pub inserts-append : (d : ℕ → ℕ) (at n : ℕ) (ps qs : List Preheat) → length (inserts_at d at n (ps ++ qs)) ≡ length (inserts_at d at n ps) + length (inserts_at d at n qs)
inserts-append d at n ps qs =
    length-map (filter (is_within at n) (ps ++ qs)) (insert_of d at) ∙ ap length (filter-append (is_within at n) ps qs) ∙ length-append (filter (is_within at n) ps) (filter (is_within at n) qs) ∙ sym (ap (λ a. a + length (inserts_at d at n qs)) (length-map (filter (is_within at n) ps) (insert_of d at)) ∙ ap (λ a. length (filter (is_within at n) ps) + a) (length-map (filter (is_within at n) qs) (insert_of d at)))

-- the room of 64 is never full
pub room : (r : Rules) (near later : List LayerPlan) (l : LayerPlan) (past rest : List Step) → whole_of (near ++ l ∷ later) ≡ past ++ rest → All IsKnown (near ++ l ∷ later) → ((e : ℕ) → count_by (λ x. x.extruder == e) l.plans ≤ 1) → length (inserts_at r.degrees (path_counts_of near) (path_count_of l) (preheats_after r [] past)) ≤ 16
room r near later l past rest parts known once =
    let d = r.degrees in
    let at = path_counts_of near in
    let n = path_count_of l in
    let ps = preheats_after r [] past in
    let qs = preheats_after r past rest in
    let split : preheats_of r (near ++ l ∷ later) ≡ ps ++ qs = ap (preheats_after r []) parts ∙ preheats_after-append r [] past rest in
    let low : All LowInsert (inserts_at d at n (preheats_of r (near ++ l ∷ later))) = inserts_known d at n (preheats_of r (near ++ l ∷ later)) (preheats_known r [] (whole_of (near ++ l ∷ later)) (steps_known 0 (near ++ l ∷ later) known)) in
    omega (arith, law_few r near later l once low, ap (λ (ps : List Preheat). length (inserts_at d at n ps)) split, inserts-append d at n ps qs)
