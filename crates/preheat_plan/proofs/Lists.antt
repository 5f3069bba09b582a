-- Whole plans and preheats of lists that are put together.
use Rattle.std.proofs.Common.{ℕ, zero, suc, ◌+◌, ◌-◌, ◌≤◌, ◌<◌, ◌≡◌, ◌==◌, Bool, false, cond, ltb, leb, ◌&&◌, List, [], ◌∷◌, ◌++◌, map, length, refl, ap, ◌∙◌, arith, add-zero, append_assoc}
use Rattle.std.specs.List.{All, filter, sum_by, flat_map}
use Rattle.std.proofs.lemmas.List.{append-nil, length-append, length-map}
use Rattle.std.proofs.lemmas.Bool.{cond_both, ltb-true, lt-ltb, le-ltb, and_right, cond-false}
use Rattle.std.proofs.lemmas.List.Sums.{sum_by-append, sum_by-le-sum_by, sum_by-cons}
use Rattle.std.proofs.lemmas.List.Elements.{filter-append, All-append, All-nil, All-cons, All-head, All-tail, All-weaker}
use Rattle.std.proofs.Math.Nat.{le-max_left}
use Rattle.slice_base.specs.declared.points.Pt.{Pt}
use Rattle.plan_types.specs.Paths.{PathValue as Path}
use Rattle.plan_types.specs.declared.plans.ExtruderPlan.{ExtruderPlan}
use Rattle.plan_types.specs.Plans.{LayerPlanValue as LayerPlan}
use Rattle.plan_types.specs.Steps.{Step, steps_from, steps_of_layer, steps_of_plan, steps_with_lead, path_count_of, path_counts_of}
use Rattle.plan_types.specs.Leads.{with_leads, end_of_plans, end_of_layers, lead_of, with_lead}
use Rattle.preheat_plan.specs.Past.{Rules, boundary_of, left_of, or_start, extruder_after}
use Rattle.preheat_plan.specs.Preheats.{Preheat, is_covering, front_of, preheat_of, preheat_at, preheats_after}
use Rattle.preheat_plan.specs.Completed.{is_within, insert_of, inserts_at, heated_from}
use Rattle.preheat_core.specs.Need.{latest}

pub steps_from-append : (layer : ℕ) (xs ys : List LayerPlan) → steps_from layer (xs ++ ys) ≡ steps_from layer xs ++ steps_from (layer + length xs) ys
steps_from-append layer [] ys = rw add-zero
steps_from-append layer (x ∷ xs) ys =
    let e : suc layer + length xs ≡ layer + suc (length xs) = omega arith in
    rw (steps_from-append (suc layer) xs ys, append_assoc, e)

pub with_leads-append : (speed : ℕ → ℕ) (at : Pt) (xs ys : List LayerPlan) → with_leads speed at (xs ++ ys) ≡ with_leads speed at xs ++ with_leads speed (end_of_layers at xs) ys
with_leads-append speed at [] ys = refl
with_leads-append speed at (x ∷ xs) ys = ap (λ (ls : List LayerPlan). with_lead speed at x ∷ ls) (with_leads-append speed (end_of_plans at x.plans) xs ys)

pub length-with_leads : (speed : ℕ → ℕ) (at : Pt) (xs : List LayerPlan) → length (with_leads speed at xs) ≡ length xs
length-with_leads speed at [] = refl
length-with_leads speed at (x ∷ xs) = ap suc (length-with_leads speed (end_of_plans at x.plans) xs)

pub preheats_after-append : (r : Rules) (past xs ys : List Step) → preheats_after r past (xs ++ ys) ≡ preheats_after r past xs ++ preheats_after r (past ++ xs) ys
preheats_after-append r past [] ys = rw append-nil
preheats_after-append r past (x ∷ xs) ys = rw (preheats_after-append r (past ++ x ∷ []) xs ys, append_assoc, append_assoc)

pub heated_from-append : (d : ℕ → ℕ) (at : ℕ) (ps : List Preheat) (xs ys : List LayerPlan) → heated_from d at ps (xs ++ ys) ≡ heated_from d at ps xs ++ heated_from d (at + path_counts_of xs) ps ys
heated_from-append d at ps [] ys = rw add-zero
heated_from-append d at ps (x ∷ xs) ys =
    let e : (at + path_count_of x) + path_counts_of xs ≡ at + path_counts_of (x ∷ xs) = omega (arith, sum_by-cons path_count_of x xs) in
    ap (λ (ls : List LayerPlan). record x { inserts = inserts_at d at (path_count_of x) ps } ∷ ls) (heated_from-append d (at + path_count_of x) ps xs ys ∙ ap (λ n. heated_from d (at + path_count_of x) ps xs ++ heated_from d n ps ys) e)

pub length-heated_from : (d : ℕ → ℕ) (at : ℕ) (ps : List Preheat) (xs : List LayerPlan) → length (heated_from d at ps xs) ≡ length xs
length-heated_from d at ps [] = refl
length-heated_from d at ps (x ∷ xs) = ap suc (length-heated_from d (at + path_count_of x) ps xs)

length-steps_with_lead : (lead : ℕ) (ss : List Step) → length (steps_with_lead lead ss) ≡ length ss
length-steps_with_lead lead [] = refl
length-steps_with_lead lead (s ∷ ss) = refl

length-flat : (layer : ℕ) (xs : List ExtruderPlan) → length (flat_map (steps_of_plan layer) xs) ≡ sum_by (λ x. length x.paths) xs
length-flat layer [] = refl
length-flat layer (x ∷ xs) =
    rw (length-append, length-map, length-flat layer xs, sum_by-cons (λ (x : ExtruderPlan). length x.paths) x xs)

pub length-steps_of_layer : (layer : ℕ) (l : LayerPlan) → length (steps_of_layer layer l) ≡ path_count_of l
length-steps_of_layer layer l = length-steps_with_lead l.lead (flat_map (steps_of_plan layer) l.plans) ∙ length-flat layer l.plans

pub length-steps_from : (layer : ℕ) (xs : List LayerPlan) → length (steps_from layer xs) ≡ path_counts_of xs
length-steps_from layer [] = refl
length-steps_from layer (x ∷ xs) =
    rw (length-append, length-steps_of_layer layer x, length-steps_from (suc layer) xs, sum_by-cons path_count_of x xs)

pub le-latest : (covers : ℕ → Bool) (front n : ℕ) → front ≤ latest covers front n
le-latest covers front zero = omega arith
le-latest covers front (suc n) =
    cond_both (covers (front + suc n)) (front + suc n) (latest covers front n) (λ b. front ≤ b) (λ e. omega arith) (λ e. le-latest covers front n)

below : (m n k : ℕ) → m ≤ n → cond (ltb k m) 1 0 ≤ cond (ltb k n) 1 0
below m n k h = cond_both (ltb k m) 1 0 (λ a. a ≤ cond (ltb k n) 1 0) (λ e. rw (lt-ltb k n (omega (arith, ltb-true k m e))) (omega arith)) (λ e. omega arith)

pub boundary_of-le : (m n : ℕ) (past : List Step) → m ≤ n → boundary_of m past ≤ boundary_of n past
boundary_of-le m n past h =
    sum_by-le-sum_by (λ (s : Step). cond (ltb s.layer m) 1 0) (λ (s : Step). cond (ltb s.layer n) 1 0) past (λ s. below m n s.layer h)

pub boundary_of-append : (m : ℕ) (past more : List Step) → boundary_of m (past ++ more) ≡ boundary_of m past + boundary_of m more
boundary_of-append m past more = sum_by-append (λ (s : Step). cond (ltb s.layer m) 1 0) past more

-- no preheat from a boundary on stands below it
not_within : (at n a : ℕ) → at + n ≤ a → (leb at a && ltb a (at + n)) ≡ false
not_within at n a h = and_right (leb at a) (ltb a (at + n)) (le-ltb a (at + n) h)

pub none_within : (at n : ℕ) (qs : List Preheat) → All (λ q. at + n ≤ q.at) qs → filter (is_within at n) qs ≡ []
none_within at n [] later = refl
none_within at n (q ∷ qs) later =
    cond-false (is_within at n q) (q ∷ filter (is_within at n) qs) (filter (is_within at n) qs) (not_within at n q.at (All-head (λ (q : Preheat). at + n ≤ q.at) q qs later))
    ∙ none_within at n qs (All-tail (λ (q : Preheat). at + n ≤ q.at) q qs later)

-- later preheats stand at none of these layers' boundaries
pub heated_from-more : (d : ℕ → ℕ) (at : ℕ) (ps qs : List Preheat) (xs : List LayerPlan) → All (λ q. at + path_counts_of xs ≤ q.at) qs → heated_from d at (ps ++ qs) xs ≡ heated_from d at ps xs
heated_from-more d at ps qs [] later = refl
heated_from-more d at ps qs (x ∷ xs) later =
    let n = path_count_of x in
    let total : path_counts_of (x ∷ xs) ≡ n + path_counts_of xs = sum_by-cons path_count_of x xs in
    let here : All (λ (q : Preheat). at + n ≤ q.at) qs = All-weaker (λ (q : Preheat). at + path_counts_of (x ∷ xs) ≤ q.at) (λ (q : Preheat). at + n ≤ q.at) (λ q h. omega (arith, h, total)) qs later in
    let rest : All (λ (q : Preheat). (at + n) + path_counts_of xs ≤ q.at) qs = All-weaker (λ (q : Preheat). at + path_counts_of (x ∷ xs) ≤ q.at) (λ (q : Preheat). (at + n) + path_counts_of xs ≤ q.at) (λ q h. omega (arith, h, total)) qs later in
    let same : inserts_at d at n (ps ++ qs) ≡ inserts_at d at n ps = ap (map (insert_of d at)) (filter-append (is_within at n) ps qs ∙ ap (λ (l : List Preheat). filter (is_within at n) ps ++ l) (none_within at n qs here) ∙ append-nil (filter (is_within at n) ps)) in
    rw (same, heated_from-more d (at + n) ps qs xs rest)

-- where each preheat stands at least
pub preheats_after-ge : (r : Rules) (bound m : ℕ) (past ss : List Step) → bound ≤ boundary_of m past → All (λ s. m + r.window ≤ s.layer) ss → All (λ p. bound ≤ p.at) (preheats_after r past ss)
preheats_after-ge r bound m past [] h high = All-nil (λ (p : Preheat). bound ≤ p.at)
preheats_after-ge r bound m past (s ∷ ss) h high =
    let P : Preheat → Type 0 = λ p. bound ≤ p.at in
    let at : m + r.window ≤ s.layer = All-head (λ (s : Step). m + r.window ≤ s.layer) s ss high in
    let front = front_of r past s.layer s.extruder in
    let least : bound ≤ front = omega (arith, h, boundary_of-le m (s.layer - r.window) past (omega arith), le-max_left (boundary_of (s.layer - r.window) past) (or_start (left_of s.extruder past))) in
    let one : bound ≤ (preheat_of r past s).at = omega (arith, least, le-latest (is_covering r past s.extruder) front (length past - front)) in
    let first : All P (preheat_at r past s) = cond_both (s.extruder == extruder_after r.first past) [] (preheat_of r past s ∷ []) (All P) (λ e. All-nil P) (λ e. All-cons P (preheat_of r past s) [] one (All-nil P)) in
    All-append P (preheat_at r past s) (preheats_after r (past ++ s ∷ []) ss) first (preheats_after-ge r bound m (past ++ s ∷ []) ss (omega (arith, h, boundary_of-append m past (s ∷ []))) (All-tail (λ (s : Step). m + r.window ≤ s.layer) s ss high))

-- the layers of steps
led_layers : (P : ℕ → Type 0) (lead : ℕ) (ss : List Step) → All (λ s. P s.layer) ss → All (λ s. P s.layer) (steps_with_lead lead ss)
led_layers P lead [] h = h
led_layers P lead (s ∷ ss) h = All-cons (λ (s : Step). P s.layer) (record s { time = lead + s.time }) ss (All-head (λ (s : Step). P s.layer) s ss h) (All-tail (λ (s : Step). P s.layer) s ss h)

all_map : (layer : ℕ) (e : ℕ) (P : ℕ → Type 0) (ps : List Path) → P layer → All {X = Step} (λ s. P s.layer) (map (λ p. record { layer = layer; extruder = e; time = p.time }) ps)
all_map layer e P [] h = All-nil (λ (s : Step). P s.layer)
all_map layer e P (p ∷ ps) h = All-cons (λ (s : Step). P s.layer) (record { layer = layer; extruder = e; time = p.time }) _ h (all_map layer e P ps h)

all_flat : (layer : ℕ) (P : ℕ → Type 0) (xs : List ExtruderPlan) → P layer → All (λ s. P s.layer) (flat_map (steps_of_plan layer) xs)
all_flat layer P [] h = All-nil (λ (s : Step). P s.layer)
all_flat layer P (x ∷ xs) h = All-append (λ (s : Step). P s.layer) (steps_of_plan layer x) (flat_map (steps_of_plan layer) xs) (all_map layer x.extruder P x.paths h) (all_flat layer P xs h)

pub all_layer : (P : ℕ → Type 0) (layer : ℕ) (l : LayerPlan) → P layer → All (λ s. P s.layer) (steps_of_layer layer l)
all_layer P layer l h = led_layers P l.lead (flat_map (steps_of_plan layer) l.plans) (all_flat layer P l.plans h)

pub all_from : (low layer : ℕ) (ls : List LayerPlan) → low ≤ layer → All (λ s. low ≤ s.layer) (steps_from layer ls)
all_from low layer [] h = All-nil (λ (s : Step). low ≤ s.layer)
all_from low layer (l ∷ ls) h = All-append (λ (s : Step). low ≤ s.layer) (steps_of_layer layer l) (steps_from (suc layer) ls) (all_layer (λ k. low ≤ k) layer l h) (all_from low (suc layer) ls (omega arith))

pub all_below : (layer high : ℕ) (ls : List LayerPlan) → layer + length ls ≤ high → All (λ s. s.layer < high) (steps_from layer ls)
all_below layer high [] h = All-nil (λ (s : Step). s.layer < high)
all_below layer high (l ∷ ls) h = All-append (λ (s : Step). s.layer < high) (steps_of_layer layer l) (steps_from (suc layer) ls) (all_layer (λ k. k < high) layer l (omega arith)) (all_below (suc layer) high ls (omega arith))

pub boundary_of_all : (m : ℕ) (ss : List Step) → All (λ s. s.layer < m) ss → boundary_of m ss ≡ length ss
boundary_of_all m [] h = refl
boundary_of_all m (s ∷ ss) h =
    let t = λ (s : Step). cond (ltb s.layer m) 1 0 in
    sum_by-cons t s ss ∙ rw (lt-ltb s.layer m (All-head (λ (s : Step). s.layer < m) s ss h), boundary_of_all m ss (All-tail (λ (s : Step). s.layer < m) s ss h)) (omega arith)
