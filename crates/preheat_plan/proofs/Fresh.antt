-- Fresh plans: eight extruders at most, and once they are completed two preheats of each at most.
use Rattle.std.proofs.Common.{ℕ, zero, suc, ◌+◌, ◌-◌, ◌≤◌, ◌<◌, ◌≡◌, ◌==◌, List, [], ◌∷◌, ◌++◌, length, refl, ap, sym, ◌∙◌, subst, arith, append_assoc}
use Rattle.std.specs.List.{All, count_by}
use Rattle.std.proofs.lemmas.List.{append-nil}
use Rattle.std.proofs.lemmas.List.Sums.{sum_by-append, sum_by-cons}
use Rattle.std.proofs.lemmas.List.Elements.{All-nil, All-cons, All-head, All-tail, All-weaker}
use Rattle.plan_types.specs.declared.plans.ExtruderPlan.{ExtruderPlan}
use Rattle.plan_types.specs.declared.inserts.Insert.{Insert}
use Rattle.plan_types.specs.Plans.{LayerPlanValue as LayerPlan, EachOnce}
use Rattle.plan_types.specs.Steps.{whole_of, path_count_of, path_counts_of}
use Rattle.plan_types.specs.Leads.{origin, with_leads}
use Rattle.preheat_plan.specs.Past.{Rules}
use Rattle.preheat_plan.specs.Preheats.{Preheat, preheats_of}
use Rattle.preheat_plan.specs.Completed.{inserts_at, heated_from, completed_of, IsFresh}
use Rattle.preheat_plan.specs.Held.{Held, taken}
use Rattle.preheat_plan.specs.Follows.{Follows}
use Rattle.preheat_plan.proofs.Few.{sum_to, length-by_extruder}
use Rattle.preheat_plan.proofs.Room.{IsKnown}
use Rattle.preheat_plan.proofs.HeldFew.{IsOnce, HasFew, held_few}
use Rattle.preheat_plan.proofs.Twice.{law_count}
use Rattle.preheat_plan.proofs.Takes.{taken-follows, known-leads, once-leads, All-last}

pub all_known : (ls : List LayerPlan) → All IsFresh ls → All IsKnown ls
all_known ls h = All-weaker IsFresh IsKnown (λ l f. f.known) ls h

pub all_once : (ls : List LayerPlan) → All IsFresh ls → All IsOnce ls
all_once ls h = All-weaker IsFresh IsOnce (λ l f. f.once) ls h

pub takes : (r : Rules) (ls : List LayerPlan) (l : LayerPlan) (h : Held) → All IsFresh (ls ++ l ∷ []) → Follows r ls (length ls - r.window) h → Follows r (ls ++ l ∷ []) (length ls - r.window) (taken r l h)
takes r ls l h fresh follows =
    taken-follows r ls l (length ls - r.window) h refl (All-last IsFresh ls l fresh).bare (all_known (ls ++ l ∷ []) fresh) (all_once (ls ++ l ∷ []) fresh) follows

-- the inserts of an extruder, in each plan
abbrev pub HasTwo : LayerPlan → Type 0
HasTwo l = (e : ℕ) → count_by (λ i. i.extruder == e) l.inserts ≤ 2

two_each : (r : Rules) (near bare : List LayerPlan) → All IsOnce bare → All HasTwo (heated_from r.degrees (path_counts_of near) (preheats_of r (near ++ bare)) bare)
two_each r near [] once = All-nil HasTwo
two_each r near (l ∷ ls) once =
    let ps = preheats_of r (near ++ l ∷ ls) in
    let at = path_counts_of near in
    let near' = near ++ l ∷ [] in
    let joined : near' ++ ls ≡ near ++ (l ∷ ls) = append_assoc near (l ∷ []) ls in
    let count : path_counts_of near' ≡ at + path_count_of l = omega (arith, sum_by-append path_count_of near (l ∷ []), sum_by-cons path_count_of l []) in
    let here : LayerPlan = record l { inserts = inserts_at r.degrees at (path_count_of l) ps } in
    let first : HasTwo here = λ e. omega (arith, law_count r e near ls l, All-head IsOnce l ls once e) in
    let others : All HasTwo (heated_from r.degrees (path_counts_of near') ps ls) = subst (λ (c : List LayerPlan). All HasTwo (heated_from r.degrees (path_counts_of near') (preheats_of r c) ls)) joined (two_each r near' ls (All-tail IsOnce l ls once)) in
    All-cons HasTwo here (heated_from r.degrees (at + path_count_of l) ps ls) first (subst (λ n. All HasTwo (heated_from r.degrees n ps ls)) count others)

pub two : (r : Rules) (ls : List LayerPlan) → All IsFresh ls → All HasTwo (completed_of r ls)
two r ls fresh =
    let ld = with_leads r.speed origin ls in
    two_each r [] ld (once-leads r.speed origin ls (all_once ls fresh))

pub sixteen : (r : Rules) (ls : List LayerPlan) → All IsFresh ls → All HasFew (completed_of r ls)
sixteen r ls fresh =
    let ld = with_leads r.speed origin ls in
    held_few r [] ld (whole_of ld) [] (sym (append-nil (whole_of ld))) (known-leads r.speed origin ls (all_known ls fresh)) (once-leads r.speed origin ls (all_once ls fresh))
