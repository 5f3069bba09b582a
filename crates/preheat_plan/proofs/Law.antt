-- No plan that follows changes what is done to the layers below the window.
use Rattle.std.proofs.Common.{ℕ, ◌+◌, ◌-◌, ◌≤◌, ◌<◌, ◌≡◌, List, [], ◌++◌, length, take, drop, refl, ap, sym, ◌∙◌, arith, append_assoc, ⊎_elim}
use Rattle.std.specs.List.{All}
use Rattle.std.proofs.lemmas.List.{length-append, take_at, take_all, take-append-drop, take-take, length-take-le, drop-take}
use Rattle.std.proofs.lemmas.List.Elements.{All-weaker}
use Rattle.std.proofs.lemmas.Bool.{cases_lt}
use Rattle.plan_types.specs.Plans.{LayerPlanValue as LayerPlan}
use Rattle.plan_types.specs.Steps.{Step, whole_of, steps_from, path_counts_of}
use Rattle.plan_types.specs.Leads.{with_leads, end_of_layers, origin}
use Rattle.preheat_plan.specs.Past.{Rules, boundary_of}
use Rattle.preheat_plan.specs.Preheats.{Preheat, preheats_after, preheats_of}
use Rattle.preheat_plan.specs.Completed.{heated_from, completed_of}
use Rattle.preheat_plan.proofs.Lists.{steps_from-append, with_leads-append, length-with_leads, preheats_after-append, heated_from-append, length-heated_from, heated_from-more, length-steps_from, boundary_of-append, preheats_after-ge, all_from, all_below, boundary_of_all}

-- the preheats of a longer list are those of its front, and later ones
law_led : (r : Rules) (near mid later : List LayerPlan) → r.window ≤ length mid → take (length near) (heated_from r.degrees 0 (preheats_of r ((near ++ mid) ++ later)) ((near ++ mid) ++ later)) ≡ take (length near) (heated_from r.degrees 0 (preheats_of r (near ++ mid)) (near ++ mid))
law_led r near mid later window =
    let front = near ++ mid in
    let past = whole_of front in
    let after = steps_from (0 + length front) later in
    let n = path_counts_of near in
    let qs = preheats_after r past after in
    let split : preheats_of r (front ++ later) ≡ preheats_of r front ++ qs = ap (preheats_after r []) (steps_from-append 0 front later) ∙ preheats_after-append r [] past after in
    let parts : past ≡ whole_of near ++ steps_from (0 + length near) mid = steps_from-append 0 near mid in
    let all : boundary_of (length near) (whole_of near) ≡ n = boundary_of_all (length near) (whole_of near) (all_below 0 (length near) near (omega arith)) ∙ length-steps_from 0 near in
    let fill : n ≤ boundary_of (length near) past = rw parts (omega (arith, all, boundary_of-append (length near) (whole_of near) (steps_from (0 + length near) mid))) in
    let high : All (λ (s : Step). length near + r.window ≤ s.layer) after = all_from (length near + r.window) (0 + length front) later (omega (arith, length-append near mid, window)) in
    let far : All (λ (q : Preheat). n ≤ q.at) qs = preheats_after-ge r n (length near) past after fill high in
    let far_on : All (λ (q : Preheat). 0 + n ≤ q.at) qs = All-weaker (λ (q : Preheat). n ≤ q.at) (λ (q : Preheat). 0 + n ≤ q.at) (λ q h. omega (arith, h)) qs far in
    let one : (ps : List Preheat) (rest : List LayerPlan) → take (length near) (heated_from r.degrees 0 ps (near ++ rest)) ≡ heated_from r.degrees 0 ps near = λ ps rest. ap (take (length near)) (heated_from-append r.degrees 0 ps near rest) ∙ take_at (heated_from r.degrees 0 ps near) (heated_from r.degrees (0 + path_counts_of near) ps rest) (length near) (length-heated_from r.degrees 0 ps near) in
    let long : take (length near) (heated_from r.degrees 0 (preheats_of r (front ++ later)) (front ++ later)) ≡ heated_from r.degrees 0 (preheats_of r (front ++ later)) near = rw (append_assoc near mid later) (one (preheats_of r (near ++ (mid ++ later))) (mid ++ later)) in
    long ∙ ap (λ (ps : List Preheat). heated_from r.degrees 0 ps near) split ∙ heated_from-more r.degrees 0 (preheats_of r front) qs near far_on ∙ sym (one (preheats_of r front) mid)

-- what is written of the first n layers rests on the first n + window plans alone
law_parts : (r : Rules) (near mid later : List LayerPlan) → r.window ≤ length mid → take (length near) (completed_of r ((near ++ mid) ++ later)) ≡ take (length near) (completed_of r (near ++ mid))
law_parts r near mid later window =
    let front = near ++ mid in
    let a = with_leads r.speed origin near in
    let b = with_leads r.speed (end_of_layers origin near) mid in
    let c = with_leads r.speed (end_of_layers origin front) later in
    let short : with_leads r.speed origin front ≡ a ++ b = with_leads-append r.speed origin near mid in
    let long : with_leads r.speed origin (front ++ later) ≡ (a ++ b) ++ c = with_leads-append r.speed origin front later ∙ ap (λ (ls : List LayerPlan). ls ++ c) short in
    let same : length a ≡ length near = length-with_leads r.speed origin near in
    let law = law_led r a b c (omega (arith, window, length-with_leads r.speed (end_of_layers origin near) mid)) in
    rw (long, short, ← same) law

joined : (r : Rules) (n : ℕ) (near mid later front ls : List LayerPlan) → near ++ mid ≡ front → front ++ later ≡ ls → length near ≡ n → take (length near) (completed_of r ((near ++ mid) ++ later)) ≡ take (length near) (completed_of r (near ++ mid)) → take n (completed_of r ls) ≡ take n (completed_of r front)
joined r n near mid later front ls p q size h = rw (← q, ← p, ← size) h

pub law : (r : Rules) (n : ℕ) (ls : List LayerPlan) → take n (completed_of r ls) ≡ take n (completed_of r (take (n + r.window) ls))
law r n ls =
    let w = r.window in
    ⊎_elim (λ (short : length ls < n + w). ap (λ (ls : List LayerPlan). take n (completed_of r ls)) (sym (take_all (n + w) ls (omega arith))))
    (λ (long : n + w ≤ length ls).
    let front = take (n + w) ls in
    let near = take n front in
    let mid = drop n front in
    let later = drop (n + w) ls in
    let parts : near ++ mid ≡ front = take-append-drop n front in
    let size : length front ≡ n + w = length-take-le (n + w) ls long in
    let near_size : length near ≡ n = length-take-le n front (omega (arith, size)) in
    joined r n near mid later front ls parts (take-append-drop (n + w) ls) near_size (law_parts r near mid later (omega (arith, size, near_size, length-append near mid, ap length parts))))
    (cases_lt (length ls) (n + w))

-- two lists that agree on all layers below n + window agree on what is written of the first n
pub law_two : (r : Rules) (n : ℕ) (xs ys : List LayerPlan) → take (n + r.window) xs ≡ take (n + r.window) ys → take n (completed_of r xs) ≡ take n (completed_of r ys)
law_two r n xs ys same = law r n xs ∙ ap (λ (ls : List LayerPlan). take n (completed_of r ls)) same ∙ sym (law r n ys)
