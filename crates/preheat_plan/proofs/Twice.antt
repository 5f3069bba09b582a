-- At most two preheats of an extruder stand at one layer's boundaries.
use Rattle.std.proofs.Common.{ℕ, zero, suc, ◌+◌, ◌-◌, ◌≤◌, ◌<◌, ◌≡◌, ◌==◌, Bool, true, false, cond, ltb, leb, ◌&&◌, List, [], ◌∷◌, ◌++◌, map, length, Option, Some, None, refl, ap, sym, ◌∙◌, arith, add-zero, zero-add, ⊎_elim}
use Rattle.std.specs.List.{filter, sum_by, count_by, flat_map}
use Rattle.std.proofs.lemmas.List.{length-append, length_push}
use Rattle.std.proofs.lemmas.List.Sums.{sum_by-append, sum_by-cons, count_by-le-length}
use Rattle.std.proofs.lemmas.List.Elements.{filter-append}
use Rattle.std.proofs.lemmas.Bool.{cond_both, cond-true, cond-false, eqb-true, eq-eqb, lt-leb, le-ltb, lt-ltb, le-leb, and_left, and_right, and_from, cases_lt}
use Rattle.std.proofs.Math.Nat.{le-max_right, max-le}
use Rattle.plan_types.specs.declared.plans.ExtruderPlan.{ExtruderPlan}
use Rattle.plan_types.specs.Plans.{LayerPlanValue as LayerPlan}
use Rattle.plan_types.specs.Steps.{Step, whole_of, steps_from, steps_of_layer, steps_of_plan, steps_with_lead, path_count_of, path_counts_of}
use Rattle.preheat_plan.specs.Past.{Rules, boundary_of, left_of, left_from, or_start, extruder_after}
use Rattle.preheat_plan.specs.Preheats.{Preheat, is_covering, front_of, preheat_of, preheat_at, preheats_after, preheats_of}
use Rattle.preheat_plan.specs.Completed.{is_within, insert_of, inserts_at}
use Rattle.preheat_core.specs.Need.{latest}
use Rattle.plan_types.specs.Paths.{PathValue as Path}
use Rattle.plan_types.specs.declared.inserts.Insert.{Insert}
use Rattle.preheat_plan.proofs.Lists.{le-latest, preheats_after-append, steps_from-append, length-steps_from, length-steps_of_layer}

abbrev pub of_extruder : ℕ → Preheat → Bool
of_extruder e p = p.extruder == e

-- the preheats stand one behind the other's switch, from a boundary on
abbrev pub IsChain : ℕ → List Preheat → Type 0
IsChain c [] = Unit {0}
IsChain c (p ∷ ps) = (c ≤ p.at) × (p.at ≤ p.start) × IsChain (suc p.start) ps

abbrev pub stands : ℕ → ℕ → Preheat → ℕ
stands lo n p = cond (is_within lo n p) 1 0

abbrev pub starts : ℕ → ℕ → Preheat → ℕ
starts lo n p = cond (leb lo p.start && ltb p.start (lo + n)) 1 0

abbrev pub counted : ℕ → ℕ → ℕ → ℕ
counted lo n a = cond (leb lo a && ltb a (lo + n)) 1 0

within_no : (lo n a : ℕ) → lo + n ≤ a → counted lo n a ≡ 0
within_no lo n a h = cond-false (leb lo a && ltb a (lo + n)) 1 0 (and_right (leb lo a) (ltb a (lo + n)) (le-ltb a (lo + n) h))

below_no : (lo n a : ℕ) → a < lo → counted lo n a ≡ 0
below_no lo n a h = cond-false (leb lo a && ltb a (lo + n)) 1 0 (and_left (leb lo a) (ltb a (lo + n)) (lt-leb lo a h))

within_yes : (lo n a : ℕ) → lo ≤ a → a < lo + n → counted lo n a ≡ 1
within_yes lo n a h k = cond-true (leb lo a && ltb a (lo + n)) 1 0 (and_from (leb lo a) (ltb a (lo + n)) (le-leb lo a h) (lt-ltb a (lo + n) k))

at_most_one : (b : Bool) → cond b 1 0 ≤ 1
at_most_one b = cond_both b 1 0 (λ a. a ≤ 1) (λ e. omega arith) (λ e. omega arith)

none_stand : (lo n c : ℕ) (ps : List Preheat) → lo + n ≤ c → IsChain c ps → sum_by (stands lo n) ps ≡ 0
none_stand lo n c [] h chain = refl
none_stand lo n c (p ∷ ps) h chain =
    omega (arith, sum_by-cons (stands lo n) p ps, within_no lo n p.at (omega (arith, h, chain.0)), none_stand lo n (suc p.start) ps (omega (arith, h, chain.0, chain.1)) chain.2)

pub chain_count : (lo n c : ℕ) (ps : List Preheat) → IsChain c ps → sum_by (stands lo n) ps ≤ suc (sum_by (starts lo n) ps)
chain_count lo n c [] chain = let z : 0 ≤ 1 = omega arith in z
chain_count lo n c (p ∷ ps) chain =
    let a : sum_by (stands lo n) (p ∷ ps) ≡ stands lo n p + sum_by (stands lo n) ps = sum_by-cons (stands lo n) p ps in
    let b : sum_by (starts lo n) (p ∷ ps) ≡ starts lo n p + sum_by (starts lo n) ps = sum_by-cons (starts lo n) p ps in
    let rest : sum_by (stands lo n) ps ≤ suc (sum_by (starts lo n) ps) = chain_count lo n (suc p.start) ps chain.2 in
    ⊎_elim
    (λ (below : p.at < lo). omega (arith, a, b, rest, below_no lo n p.at below))
    (λ (above : lo ≤ p.at).
    ⊎_elim
    (λ (inside : p.start < lo + n). omega (arith, a, b, rest, at_most_one (is_within lo n p), within_yes lo n p.start (omega (arith, above, chain.1)) inside))
    (λ (outside : lo + n ≤ p.start). omega (arith, a, b, at_most_one (is_within lo n p), none_stand lo n (suc p.start) ps (omega (arith, outside)) chain.2))
    (cases_lt p.start (lo + n)))
    (cases_lt p.at lo)

pub left_from-append : (e at : ℕ) (left : Option ℕ) (xs ys : List Step) → left_from e at left (xs ++ ys) ≡ left_from e (at + length xs) (left_from e at left xs) ys
left_from-append e at left [] ys = rw add-zero refl
left_from-append e at left (x ∷ xs) ys =
    let l = cond (x.extruder == e) (Some (suc at)) left in
    let k : suc at + length xs ≡ at + suc (length xs) = omega arith in
    left_from-append e (suc at) l xs ys ∙ ap (λ n. left_from e n (left_from e (suc at) l xs) ys) k

pub left-le : (e : ℕ) (at : ℕ) (left : Option ℕ) (xs : List Step) → or_start left ≤ at → or_start (left_from e at left xs) ≤ at + length xs
left-le e at left [] h = omega (arith, h)
left-le e at left (x ∷ xs) h =
    let l = cond (x.extruder == e) (Some (suc at)) left in
    let k : or_start l ≤ suc at = cond_both (x.extruder == e) (Some (suc at)) left (λ (o : Option ℕ). or_start o ≤ suc at) (λ e. omega arith) (λ e. omega (arith, h)) in
    omega (arith, left-le e (suc at) l xs k)

pub left_of-le : (e : ℕ) (past : List Step) → or_start (left_of e past) ≤ length past
left_of-le e past = let h : or_start (left_of e past) ≤ 0 + length past = left-le e 0 None past (omega arith) in omega (arith, h)

pub left_of-push : (e : ℕ) (past : List Step) (s : Step) → left_of e (past ++ s ∷ []) ≡ cond (s.extruder == e) (Some (suc (length past))) (left_of e past)
left_of-push e past s = left_from-append e 0 None past (s ∷ []) ∙ (let k : 0 + length past ≡ length past = omega arith in rw k refl)

pub extruder_after-append : (d : ℕ) (xs ys : List Step) → extruder_after d (xs ++ ys) ≡ extruder_after (extruder_after d xs) ys
extruder_after-append d [] ys = refl
extruder_after-append d (x ∷ xs) ys = extruder_after-append x.extruder xs ys

pub latest-le : (covers : ℕ → Bool) (front n : ℕ) → latest covers front n ≤ front + n
latest-le covers front zero = omega arith
latest-le covers front (suc n) = cond_both (covers (front + suc n)) (front + suc n) (latest covers front n) (λ b. b ≤ front + suc n) (λ e. omega arith) (λ e. omega (arith, latest-le covers front n))

boundary_of-length : (m : ℕ) (past : List Step) → boundary_of m past ≤ length past
boundary_of-length m past = count_by-le-length (λ (s : Step). ltb s.layer m) past

pub front_of-le : (r : Rules) (past : List Step) (layer e : ℕ) → front_of r past layer e ≤ length past
front_of-le r past layer e = max-le (boundary_of-length (layer - r.window) past) (left_of-le e past)

-- a preheat stands from where its extruder was left to the switch
pub preheat-le : (r : Rules) (past : List Step) (s : Step) → (preheat_of r past s).at ≤ length past
preheat-le r past s =
    let front = front_of r past s.layer s.extruder in
    omega (arith, latest-le (is_covering r past s.extruder) front (length past - front), front_of-le r past s.layer s.extruder)

pub preheat-ge : (r : Rules) (past : List Step) (s : Step) → or_start (left_of s.extruder past) ≤ (preheat_of r past s).at
preheat-ge r past s =
    let front = front_of r past s.layer s.extruder in
    omega (arith, le-latest (is_covering r past s.extruder) front (length past - front), le-max_right (boundary_of (s.layer - r.window) past) (or_start (left_of s.extruder past)))

glue : (e c : ℕ) (p : Preheat) (b : Bool) (rest : List Preheat) → IsChain c (filter (of_extruder e) rest) → ((p.extruder == e) ≡ true → (c ≤ p.at) × (p.at ≤ p.start) × IsChain (suc p.start) (filter (of_extruder e) rest)) → IsChain c (filter (of_extruder e) (cond b [] (p ∷ []) ++ rest))
glue e c p true rest a h = a
glue e c p false rest a h = cond_both (p.extruder == e) (p ∷ filter (of_extruder e) rest) (filter (of_extruder e) rest) (IsChain c) h (λ f. a)

-- the preheats of e are a chain
pub chain : (r : Rules) (e c : ℕ) (past ss : List Step) → c ≤ or_start (left_of e past) → IsChain c (filter (of_extruder e) (preheats_after r past ss))
chain r e c past [] h = tt
chain r e c past (s ∷ ss) h =
    let p = preheat_of r past s in
    let more = past ++ s ∷ [] in
    let short : or_start (left_of e past) ≤ length past = left_of-le e past in
    let here : c ≤ or_start (left_of e more) = rw (left_of-push e past s) (cond_both (s.extruder == e) (Some (suc (length past))) (left_of e past) (λ (o : Option ℕ). c ≤ or_start o) (λ t. omega (arith, h, short)) (λ t. h)) in
    glue e c p (s.extruder == extruder_after r.first past) (preheats_after r more ss) (chain r e c more ss here)
    (λ t.
    let same : s.extruder ≡ e = eqb-true s.extruder e t in
    let from : or_start (left_of s.extruder past) ≡ or_start (left_of e past) = ap (λ d. or_start (left_of d past)) same in
    let left : left_of e more ≡ Some (suc (length past)) = left_of-push e past s ∙ cond-true (s.extruder == e) (Some (suc (length past))) (left_of e past) t in
    let on : suc (length past) ≤ or_start (left_of e more) = rw left (omega arith) in
    (omega (arith, h, from, preheat-ge r past s), preheat-le r past s, chain r e (suc (length past)) more ss on))

-- the switches to e among paths that come after extruder d
abbrev pub switches : ℕ → ℕ → List Step → ℕ
switches e d [] = 0
switches e d (s ∷ ss) = cond (s.extruder == d) 0 (cond (s.extruder == e) 1 0) + switches e s.extruder ss

inner : (f : Preheat → ℕ) (p : Preheat) (b : Bool) → sum_by f (cond b (p ∷ []) []) ≡ cond b (f p) 0
inner f p true = omega arith
inner f p false = refl

head : (f : Preheat → ℕ) (e : ℕ) (p : Preheat) (b : Bool) → sum_by f (filter (of_extruder e) (cond b [] (p ∷ []))) ≡ cond b 0 (cond (p.extruder == e) (f p) 0)
head f e p true = refl
head f e p false = inner f p (p.extruder == e)

sum_head : (f : Preheat → ℕ) (r : Rules) (e : ℕ) (past : List Step) (s : Step) (ss : List Step) → sum_by f (filter (of_extruder e) (preheats_after r past (s ∷ ss))) ≡ cond (s.extruder == extruder_after r.first past) 0 (cond (s.extruder == e) (f (preheat_of r past s)) 0) + sum_by f (filter (of_extruder e) (preheats_after r (past ++ s ∷ []) ss))
sum_head f r e past s ss =
    let a = preheat_at r past s in
    let rest = preheats_after r (past ++ s ∷ []) ss in
    ap (sum_by f) (filter-append (of_extruder e) a rest) ∙ sum_by-append f (filter (of_extruder e) a) (filter (of_extruder e) rest) ∙ ap (λ n. n + sum_by f (filter (of_extruder e) rest)) (head f e (preheat_of r past s) (s.extruder == extruder_after r.first past))

small : (a b : Bool) (n : ℕ) → n ≡ 0 → cond a 0 (cond b n 0) ≡ 0
small true b n h = refl
small false true n h = h
small false false n h = refl

smaller : (a b : Bool) (n : ℕ) → n ≤ 1 → cond a 0 (cond b n 0) ≤ cond a 0 (cond b 1 0)
smaller true b n h = omega arith
smaller false true n h = h
smaller false false n h = omega arith

pub starts_before : (r : Rules) (e lo n : ℕ) (past ss : List Step) → length past + length ss ≤ lo → sum_by (starts lo n) (filter (of_extruder e) (preheats_after r past ss)) ≡ 0
starts_before r e lo n past [] h = refl
starts_before r e lo n past (s ∷ ss) h =
    let l : length (past ++ s ∷ []) ≡ length past + 1 = length_push past s in
    omega (arith, sum_head (starts lo n) r e past s ss, small (s.extruder == extruder_after r.first past) (s.extruder == e) (starts lo n (preheat_of r past s)) (below_no lo n (length past) (omega (arith, h))), starts_before r e lo n (past ++ s ∷ []) ss (omega (arith, l, h)))

pub starts_after : (r : Rules) (e lo n : ℕ) (past ss : List Step) → lo + n ≤ length past → sum_by (starts lo n) (filter (of_extruder e) (preheats_after r past ss)) ≡ 0
starts_after r e lo n past [] h = refl
starts_after r e lo n past (s ∷ ss) h =
    let l : length (past ++ s ∷ []) ≡ length past + 1 = length_push past s in
    omega (arith, sum_head (starts lo n) r e past s ss, small (s.extruder == extruder_after r.first past) (s.extruder == e) (starts lo n (preheat_of r past s)) (within_no lo n (length past) (omega (arith, h))), starts_after r e lo n (past ++ s ∷ []) ss (omega (arith, l, h)))

pub starts_in : (r : Rules) (e lo n : ℕ) (past ss : List Step) → sum_by (starts lo n) (filter (of_extruder e) (preheats_after r past ss)) ≤ switches e (extruder_after r.first past) ss
starts_in r e lo n past [] = let z : 0 ≤ 0 = omega arith in z
starts_in r e lo n past (s ∷ ss) =
    let d : extruder_after r.first (past ++ s ∷ []) ≡ s.extruder = extruder_after-append r.first past (s ∷ []) in
    let rest : sum_by (starts lo n) (filter (of_extruder e) (preheats_after r (past ++ s ∷ []) ss)) ≤ switches e s.extruder ss = rw d at (starts_in r e lo n (past ++ s ∷ []) ss) in
    omega (arith, sum_head (starts lo n) r e past s ss, rest, smaller (s.extruder == extruder_after r.first past) (s.extruder == e) (starts lo n (preheat_of r past s)) (at_most_one (leb lo (length past) && ltb (length past) (lo + n))))

-- a layer has as many switches to e as plans of e, at most
switches-append : (e d : ℕ) (xs ys : List Step) → switches e d (xs ++ ys) ≡ switches e d xs + switches e (extruder_after d xs) ys
switches-append e d [] ys = sym (zero-add (switches e d ys))
switches-append e d (x ∷ xs) ys = omega (arith, switches-append e x.extruder xs ys)

switches-with_lead : (e d lead : ℕ) (ss : List Step) → switches e d (steps_with_lead lead ss) ≡ switches e d ss
switches-with_lead e d lead [] = refl
switches-with_lead e d lead (s ∷ ss) = refl

switches-same : (e layer d : ℕ) (ps : List Path) → switches e d (map {B = Step} (λ p. record { layer = layer; extruder = d; time = p.time }) ps) ≡ 0
switches-same e layer d [] = refl
switches-same e layer d (p ∷ ps) = omega (arith, cond-true {A = ℕ} (d == d) 0 (cond (d == e) 1 0) (eq-eqb d d refl), switches-same e layer d ps)

one_plan : (e d layer k : ℕ) (ps : List Path) → switches e d (map {B = Step} (λ p. record { layer = layer; extruder = k; time = p.time }) ps) ≤ cond (k == e) 1 0
one_plan e d layer k [] = cond_both (k == e) 1 0 (λ a. 0 ≤ a) (λ t. omega arith) (λ t. omega arith)
one_plan e d layer k (p ∷ ps) =
    let m : cond (k == d) 0 (cond (k == e) 1 0) ≤ cond (k == e) 1 0 = cond_both (k == d) 0 (cond (k == e) 1 0) (λ a. a ≤ cond (k == e) 1 0) (λ t. cond_both (k == e) 1 0 (λ a. 0 ≤ a) (λ t. omega arith) (λ t. omega arith)) (λ t. omega arith) in
    omega (arith, m, switches-same e layer k ps)

switches-plan : (e d layer : ℕ) (x : ExtruderPlan) → switches e d (steps_of_plan layer x) ≤ cond (x.extruder == e) 1 0
switches-plan e d layer x = one_plan e d layer x.extruder x.paths

switches-layer : (e d layer : ℕ) (xs : List ExtruderPlan) → switches e d (flat_map (steps_of_plan layer) xs) ≤ count_by (λ x. x.extruder == e) xs
switches-layer e d layer [] = let z : 0 ≤ 0 = omega arith in z
switches-layer e d layer (x ∷ xs) =
    omega (arith, switches-append e d (steps_of_plan layer x) (flat_map (steps_of_plan layer) xs), switches-plan e d layer x, switches-layer e (extruder_after d (steps_of_plan layer x)) layer xs, sum_by-cons (λ (x : ExtruderPlan). cond (x.extruder == e) 1 0) x xs)

-- the inserts of e at one layer's boundaries
abbrev inserts_of_e : ℕ → List Insert → ℕ
inserts_of_e e is = count_by (λ i. i.extruder == e) is

count_left : (d : ℕ → ℕ) (e lo : ℕ) (p : Preheat) (qs : List Preheat) (b : Bool) → inserts_of_e e (map (insert_of d lo) (cond b (p ∷ qs) qs)) ≡ cond b (cond (p.extruder == e) 1 0) 0 + inserts_of_e e (map (insert_of d lo) qs)
count_left d e lo p qs true = sum_by-cons (λ (i : Insert). cond (i.extruder == e) 1 0) (insert_of d lo p) (map (insert_of d lo) qs)
count_left d e lo p qs false = sym (zero-add (inserts_of_e e (map (insert_of d lo) qs)))

count_right : (f : Preheat → ℕ) (p : Preheat) (rs : List Preheat) (c : Bool) → sum_by f (cond c (p ∷ rs) rs) ≡ cond c (f p) 0 + sum_by f rs
count_right f p rs true = sum_by-cons f p rs
count_right f p rs false = sym (zero-add (sum_by f rs))

swapped : (b c : Bool) (x : ℕ) → x ≡ cond b 1 0 → cond b (cond c 1 0) 0 ≡ cond c x 0
swapped true true x h = sym h
swapped true false x h = refl
swapped false true x h = sym h
swapped false false x h = refl

sum_split : (f : Preheat → ℕ) (e : ℕ) (xs ys zs : List Preheat) → sum_by f (filter (of_extruder e) (xs ++ (ys ++ zs))) ≡ sum_by f (filter (of_extruder e) xs) + (sum_by f (filter (of_extruder e) ys) + sum_by f (filter (of_extruder e) zs))
sum_split f e xs ys zs =
    ap (sum_by f) (filter-append (of_extruder e) xs (ys ++ zs)) ∙ sum_by-append f (filter (of_extruder e) xs) (filter (of_extruder e) (ys ++ zs)) ∙ ap (λ n. sum_by f (filter (of_extruder e) xs) + n) (ap (sum_by f) (filter-append (of_extruder e) ys zs) ∙ sum_by-append f (filter (of_extruder e) ys) (filter (of_extruder e) zs))

filter-within : (d : ℕ → ℕ) (e lo n : ℕ) (ps : List Preheat) → count_by (λ i. i.extruder == e) (inserts_at d lo n ps) ≡ sum_by (stands lo n) (filter (of_extruder e) ps)
filter-within d e lo n [] = refl
filter-within d e lo n (p ∷ ps) =
    omega (arith, count_left d e lo p (filter (is_within lo n) ps) (is_within lo n p), count_right (stands lo n) p (filter (of_extruder e) ps) (p.extruder == e), swapped (is_within lo n p) (p.extruder == e) (stands lo n p) refl, filter-within d e lo n ps)

pub law_count : (r : Rules) (e : ℕ) (near later : List LayerPlan) (l : LayerPlan) → count_by (λ i. i.extruder == e) (inserts_at r.degrees (path_counts_of near) (path_count_of l) (preheats_of r (near ++ l ∷ later))) ≤ suc (count_by (λ x. x.extruder == e) l.plans)
law_count r e near later l =
    let lo = path_counts_of near in
    let n = path_count_of l in
    let f = starts lo n in
    let past = whole_of near in
    let here = steps_of_layer (0 + length near) l in
    let after = steps_from (suc (0 + length near)) later in
    let split : preheats_of r (near ++ l ∷ later) ≡ preheats_after r [] past ++ (preheats_after r past here ++ preheats_after r (past ++ here) after) = ap (preheats_after r []) (steps_from-append 0 near (l ∷ later)) ∙ preheats_after-append r [] past (here ++ after) ∙ ap (λ (ps : List Preheat). preheats_after r [] past ++ ps) (preheats_after-append r past here after) in
    let total = preheats_of r (near ++ l ∷ later) in
    let chained : sum_by (stands lo n) (filter (of_extruder e) total) ≤ suc (sum_by f (filter (of_extruder e) total)) = chain_count lo n 0 (filter (of_extruder e) total) (chain r e 0 [] (whole_of (near ++ l ∷ later)) (omega arith)) in
    let sums : sum_by f (filter (of_extruder e) total) ≡ sum_by f (filter (of_extruder e) (preheats_after r [] past)) + (sum_by f (filter (of_extruder e) (preheats_after r past here)) + sum_by f (filter (of_extruder e) (preheats_after r (past ++ here) after))) = ap (λ (ps : List Preheat). sum_by f (filter (of_extruder e) ps)) split ∙ sum_split f e (preheats_after r [] past) (preheats_after r past here) (preheats_after r (past ++ here) after) in
    let size : length past ≡ lo = length-steps_from 0 near in
    let more : length (past ++ here) ≡ lo + n = length-append past here ∙ omega (arith, size, length-steps_of_layer (0 + length near) l) in
    let first : sum_by f (filter (of_extruder e) (preheats_after r [] past)) ≡ 0 = starts_before r e lo n [] past (omega (arith, size)) in
    let last : sum_by f (filter (of_extruder e) (preheats_after r (past ++ here) after)) ≡ 0 = starts_after r e lo n (past ++ here) after (omega (arith, more)) in
    let mid : sum_by f (filter (of_extruder e) (preheats_after r past here)) ≤ switches e (extruder_after r.first past) here = starts_in r e lo n past here in
    let few : switches e (extruder_after r.first past) here ≤ count_by (λ (x : ExtruderPlan). x.extruder == e) l.plans = rw (switches-with_lead e (extruder_after r.first past) l.lead (flat_map (steps_of_plan (0 + length near)) l.plans)) (switches-layer e (extruder_after r.first past) (0 + length near) l.plans) in
    omega (arith, filter-within r.degrees e lo n total, chained, sums, first, last, mid, few)
