-- No held plan has more than sixteen preheats, at any step through the paths.
use Rattle.std.proofs.Common.{ℕ, ◌+◌, ◌≤◌, ◌≡◌, ◌==◌, List, [], ◌∷◌, ◌++◌, length, ap, sym, ◌∙◌, subst, arith, append_assoc}
use Rattle.std.specs.List.{All, count_by}
use Rattle.std.proofs.lemmas.List.Sums.{sum_by-append, sum_by-cons}
use Rattle.std.proofs.lemmas.List.Elements.{All-nil, All-cons, All-head, All-tail}
use Rattle.plan_types.specs.declared.plans.ExtruderPlan.{ExtruderPlan}
use Rattle.plan_types.specs.Plans.{LayerPlanValue as LayerPlan}
use Rattle.plan_types.specs.Steps.{Step, whole_of, path_count_of, path_counts_of}
use Rattle.preheat_plan.specs.Past.{Rules}
use Rattle.preheat_plan.specs.Preheats.{Preheat, preheats_after}
use Rattle.preheat_plan.specs.Completed.{inserts_at, heated_from}
use Rattle.preheat_plan.proofs.Room.{IsKnown, room}

abbrev pub IsOnce : LayerPlan → Type 0
IsOnce l = (e : ℕ) → count_by (λ x. x.extruder == e) l.plans ≤ 1

abbrev pub HasFew : LayerPlan → Type 0
HasFew l = length l.inserts ≤ 16

pub held_few : (r : Rules) (near bare : List LayerPlan) (past rest : List Step) → whole_of (near ++ bare) ≡ past ++ rest → All IsKnown (near ++ bare) → All IsOnce bare → All HasFew (heated_from r.degrees (path_counts_of near) (preheats_after r [] past) bare)
held_few r near [] past rest parts known once = All-nil HasFew
held_few r near (l ∷ ls) past rest parts known once =
    let ps = preheats_after r [] past in
    let at = path_counts_of near in
    let near' = near ++ l ∷ [] in
    let joined : near' ++ ls ≡ near ++ (l ∷ ls) = append_assoc near (l ∷ []) ls in
    let count : path_counts_of near' ≡ at + path_count_of l = omega (arith, sum_by-append path_count_of near (l ∷ []), sum_by-cons path_count_of l []) in
    let here : LayerPlan = record l { inserts = inserts_at r.degrees at (path_count_of l) ps } in
    let first : HasFew here = room r near ls l past rest parts known (All-head IsOnce l ls once) in
    let others : All HasFew (heated_from r.degrees (path_counts_of near') ps ls) = held_few r near' ls past rest (ap whole_of joined ∙ parts) (subst (All IsKnown) (sym joined) known) (All-tail IsOnce l ls once) in
    All-cons HasFew here (heated_from r.degrees (at + path_count_of l) ps ls) first (subst (λ n. All HasFew (heated_from r.degrees n ps ls)) count others)
