-- Each switch has one preheat, at its place; and each preheat stands in one plan.
use Rattle.std.proofs.Common.{ℕ, zero, suc, ◌+◌, ◌-◌, ◌≤◌, ◌<◌, ◌≡◌, ◌==◌, Bool, true, false, cond, ltb, leb, ◌&&◌, not, List, [], ◌∷◌, ◌++◌, map, length, refl, ap, sym, ◌∙◌, subst, arith, ◌⊎◌, ⊎_elim, inl, inr}
use Rattle.std.specs.List.{All, filter, sum_by, count_by}
use Rattle.std.proofs.lemmas.List.{length-append, length-map, append-nil}
use Rattle.std.proofs.lemmas.List.Sums.{sum_by-cons}
use Rattle.std.proofs.lemmas.List.Elements.{filter-append, All-append, All-nil, All-cons, All-head, All-tail, All-weaker}
use Rattle.std.proofs.lemmas.Bool.{cond_both, cond-true, cond-false, eq-eqb, ne_eqb, cases_Bool, cases_lt, le-leb, lt-leb, lt-ltb, le-ltb}
use Rattle.plan_types.specs.Plans.{LayerPlanValue as LayerPlan}
use Rattle.plan_types.specs.Steps.{Step, whole_of, path_count_of, path_counts_of}
use Rattle.plan_types.specs.Leads.{origin, with_leads}
use Rattle.plan_types.specs.declared.inserts.Insert.{Insert}
use Rattle.preheat_core.specs.Need.{latest}
use Rattle.preheat_plan.specs.Past.{Rules, extruder_after}
use Rattle.preheat_plan.specs.Preheats.{Preheat, is_covering, front_of, preheat_of, preheat_at, preheats_after, preheats_of}
use Rattle.preheat_plan.specs.Completed.{is_within, insert_of, inserts_at, heated_from, completed_of}
use Rattle.preheat_plan.specs.Switches.{steps_of, preheats_in, is_switch, is_for, IsPreheated, HasOnePreheat}
use Rattle.preheat_plan.proofs.Lists.{preheats_after-append, le-latest, length-steps_from}
use Rattle.preheat_plan.proofs.Twice.{preheat-le, front_of-le}
use Rattle.preheat_plan.proofs.Takes.{preheats-lt}

-- the greatest boundary that covers, else the front
latest-covers : (covers : ℕ → Bool) (front n : ℕ) → (covers (latest covers front n) ≡ true) ⊎ (latest covers front n ≡ front)
latest-covers covers front zero = inr refl
latest-covers covers front (suc n) =
    let here = front + suc n in
    ⊎_elim
    (λ (t : covers here ≡ true). let e : latest covers front (suc n) ≡ here = cond-true (covers here) here (latest covers front n) t in inl (ap covers e ∙ t))
    (λ (f : covers here ≡ false). let e : latest covers front (suc n) ≡ latest covers front n = cond-false (covers here) here (latest covers front n) f in
    ⊎_elim (λ (a : covers (latest covers front n) ≡ true). inl (ap covers e ∙ a)) (λ (b : latest covers front n ≡ front). inr (e ∙ b)) (latest-covers covers front n))
    (cases_Bool (covers here))

latest-after : (covers : ℕ → Bool) (front n b : ℕ) → latest covers front n < b → b ≤ front + n → covers b ≡ false
latest-after covers front zero b low high = absurd (omega (arith, low, high))
latest-after covers front (suc n) b low high =
    let here = front + suc n in
    ⊎_elim
    (λ (t : covers here ≡ true). let e : latest covers front (suc n) ≡ here = cond-true (covers here) here (latest covers front n) t in absurd (omega (arith, low, high, e)))
    (λ (f : covers here ≡ false). let e : latest covers front (suc n) ≡ latest covers front n = cond-false (covers here) here (latest covers front n) f in
    ⊎_elim
    (λ (in' : b < here). latest-after covers front n b (omega (arith, low, e)) (omega (arith, in')))
    (λ (out : here ≤ b). let same : b ≡ here = omega (arith, out, high) in ap covers same ∙ f)
    (cases_lt b here))
    (cases_Bool (covers here))

pub preheated : (r : Rules) (past : List Step) (s : Step) → IsPreheated r past s (preheat_of r past s)
preheated r past s =
    let front = front_of r past s.layer s.extruder in
    let covers = is_covering r past s.extruder in
    let n = length past - front in
    let short : front ≤ length past = front_of-le r past s.layer s.extruder in
    record {
      extruder = refl;
      start = refl;
      from = le-latest covers front n;
      to = preheat-le r past s;
      covers = latest-covers covers front n;
      latest = λ b low high. latest-after covers front n b low (omega (arith, high, short));
    }

-- where preheats start
abbrev Below : ℕ → Preheat → Type 0
Below n p = p.start < n

abbrev From : ℕ → Preheat → Type 0
From n p = n ≤ p.start

starts_lt : (r : Rules) (past ss : List Step) → All (Below (length past + length ss)) (preheats_after r past ss)
starts_lt r past [] = All-nil (Below (length past + 0))
starts_lt r past (s ∷ ss) =
    let P = Below (length past + length (s ∷ ss)) in
    let more = past ++ s ∷ [] in
    let size : length more ≡ length past + 1 = length-append past (s ∷ []) in
    let first : All P (preheat_at r past s) = cond_both (s.extruder == extruder_after r.first past) [] (preheat_of r past s ∷ []) (All P) (λ t. All-nil P) (λ t. All-cons P (preheat_of r past s) [] (omega arith) (All-nil P)) in
    All-append P (preheat_at r past s) (preheats_after r more ss) first (All-weaker (Below (length more + length ss)) P (λ p h. omega (arith, h, size)) (preheats_after r more ss) (starts_lt r more ss))

starts_ge : (r : Rules) (past ss : List Step) → All (From (length past)) (preheats_after r past ss)
starts_ge r past [] = All-nil (From (length past))
starts_ge r past (s ∷ ss) =
    let P = From (length past) in
    let more = past ++ s ∷ [] in
    let size : length more ≡ length past + 1 = length-append past (s ∷ []) in
    let first : All P (preheat_at r past s) = cond_both (s.extruder == extruder_after r.first past) [] (preheat_of r past s ∷ []) (All P) (λ t. All-nil P) (λ t. All-cons P (preheat_of r past s) [] (omega arith) (All-nil P)) in
    All-append P (preheat_at r past s) (preheats_after r more ss) first (All-weaker (From (length more)) P (λ p h. omega (arith, h, size)) (preheats_after r more ss) (starts_ge r more ss))

-- none starts there
none_for : (n : ℕ) (ps : List Preheat) → All (λ p. is_for n p ≡ false) ps → filter (is_for n) ps ≡ []
none_for n [] h = refl
none_for n (p ∷ ps) h = cond-false (is_for n p) (p ∷ filter (is_for n) ps) (filter (is_for n) ps) (All-head (λ (p : Preheat). is_for n p ≡ false) p ps h) ∙ none_for n ps (All-tail (λ (p : Preheat). is_for n p ≡ false) p ps h)

not_below : (n : ℕ) (p : Preheat) → p.start < n → is_for n p ≡ false
not_below n p h = ne_eqb p.start n (λ e. absurd (omega (arith, h, e)))

not_above : (n : ℕ) (p : Preheat) → n < p.start → is_for n p ≡ false
not_above n p h = ne_eqb p.start n (λ e. absurd (omega (arith, h, e)))

-- of all preheats only that of this path starts at it
parts_for : (r : Rules) (past rest : List Step) (s : Step) → filter (is_for (length past)) (preheats_after r [] (past ++ s ∷ rest)) ≡ filter (is_for (length past)) (preheat_at r past s)
parts_for r past rest s =
    let n = length past in
    let f = is_for n in
    let a = preheats_after r [] past in
    let b = preheat_at r past s in
    let more = past ++ s ∷ [] in
    let c = preheats_after r more rest in
    let size : length more ≡ n + 1 = length-append past (s ∷ []) in
    let before : filter f a ≡ [] = none_for n a (All-weaker (Below (0 + n)) (λ (p : Preheat). f p ≡ false) (λ p h. not_below n p (omega (arith, h))) a (starts_lt r [] past)) in
    let after : filter f c ≡ [] = none_for n c (All-weaker (From (length more)) (λ (p : Preheat). f p ≡ false) (λ p h. not_above n p (omega (arith, h, size))) c (starts_ge r more rest)) in
    ap (filter f) (preheats_after-append r [] past (s ∷ rest)) ∙ filter-append f a (b ++ c) ∙ ap (λ (ps : List Preheat). ps ++ filter f (b ++ c)) before ∙ filter-append f b c ∙ ap (λ (ps : List Preheat). filter f b ++ ps) after ∙ append-nil (filter f b)

pub one_preheat : (r : Rules) (plans : List LayerPlan) (past rest : List Step) (s : Step) → steps_of r plans ≡ past ++ s ∷ rest → is_switch r past s ≡ true → HasOnePreheat r (preheats_in r plans) past s
one_preheat r plans past rest s parts switch =
    let p = preheat_of r past s in
    let f = is_for (length past) in
    let other : (s.extruder == extruder_after r.first past) ≡ false = not_true (s.extruder == extruder_after r.first past) switch in
    let here : preheat_at r past s ≡ p ∷ [] = cond-false (s.extruder == extruder_after r.first past) [] (p ∷ []) other in
    let mine : filter f (p ∷ []) ≡ p ∷ [] = cond-true (f p) (p ∷ []) [] (eq-eqb (length past) (length past) refl) in
    record {
      preheat = p;
      only = ap (λ (ss : List Step). filter f (preheats_after r [] ss)) parts ∙ parts_for r past rest s ∙ ap (filter f) here ∙ mine;
      stands = preheated r past s;
    }
  where
    not_true : (b : Bool) → not b ≡ true → b ≡ false
    not_true true h = cc
    not_true false h = refl

pub no_preheat : (r : Rules) (plans : List LayerPlan) (past rest : List Step) (s : Step) → steps_of r plans ≡ past ++ s ∷ rest → is_switch r past s ≡ false → filter (is_for (length past)) (preheats_in r plans) ≡ []
no_preheat r plans past rest s parts switch =
    let p = preheat_of r past s in
    let f = is_for (length past) in
    let same : (s.extruder == extruder_after r.first past) ≡ true = not_false (s.extruder == extruder_after r.first past) switch in
    let here : preheat_at r past s ≡ [] = cond-true (s.extruder == extruder_after r.first past) [] (p ∷ []) same in
    ap (λ (ss : List Step). filter f (preheats_after r [] ss)) parts ∙ parts_for r past rest s ∙ ap (filter f) here
  where
    not_false : (b : Bool) → not b ≡ false → b ≡ true
    not_false true h = refl
    not_false false h = cc

-- as many as stand at n boundaries, and at m more
counted : ℕ → ℕ → Preheat → ℕ
counted at n p = cond (is_within at n p) 1 0

count_more : (at n m a : ℕ) → cond (leb at a && ltb a (at + (n + m))) 1 0 ≡ cond (leb at a && ltb a (at + n)) 1 0 + cond (leb (at + n) a && ltb a ((at + n) + m)) 1 0
count_more at n m a =
    ⊎_elim
    (λ (low : a < at). rw (lt-leb at a low, lt-leb (at + n) a (omega (arith, low))) refl)
    (λ (from : at ≤ a).
    ⊎_elim
    (λ (near : a < at + n). rw (le-leb at a from, lt-ltb a (at + (n + m)) (omega (arith, near)), lt-ltb a (at + n) near, lt-leb (at + n) a near) refl)
    (λ (far : at + n ≤ a).
    ⊎_elim
    (λ (in' : a < (at + n) + m). rw (le-leb at a from, lt-ltb a (at + (n + m)) (omega (arith, in')), le-ltb a (at + n) far, le-leb (at + n) a far, lt-ltb a ((at + n) + m) in') refl)
    (λ (out : (at + n) + m ≤ a). rw (le-leb at a from, le-ltb a (at + (n + m)) (omega (arith, out)), le-ltb a (at + n) far, le-leb (at + n) a far, le-ltb a ((at + n) + m) out) refl)
    (cases_lt a ((at + n) + m)))
    (cases_lt a (at + n)))
    (cases_lt a at)

counts_more : (at n m : ℕ) (ps : List Preheat) → count_by (is_within at (n + m)) ps ≡ count_by (is_within at n) ps + count_by (is_within (at + n) m) ps
counts_more at n m [] = refl
counts_more at n m (p ∷ ps) =
    omega (arith, sum_by-cons (λ (p : Preheat). cond (is_within at (n + m) p) 1 0) p ps, sum_by-cons (λ (p : Preheat). cond (is_within at n p) 1 0) p ps, sum_by-cons (λ (p : Preheat). cond (is_within (at + n) m p) 1 0) p ps, count_more at n m p.at, counts_more at n m ps)

length-filter : (f : Preheat → Bool) (ps : List Preheat) → length (filter f ps) ≡ count_by f ps
length-filter f [] = refl
length-filter f (p ∷ ps) = head (f p) ∙ sym (sum_by-cons (λ (p : Preheat). cond (f p) 1 0) p ps ∙ ap (λ n. cond (f p) 1 0 + n) (sym (length-filter f ps)))
  where
    head : (b : Bool) → length (cond b (p ∷ filter f ps) (filter f ps)) ≡ cond b 1 0 + length (filter f ps)
    head true = omega arith
    head false = omega arith

out : (at a : ℕ) → cond {A = ℕ} (leb at a && ltb a (at + 0)) 1 0 ≡ 0
out at a = ⊎_elim (λ (low : a < at). rw (lt-leb at a low) refl) (λ (from : at ≤ a). rw (le-leb at a from, le-ltb a (at + 0) (omega (arith, from))) refl) (cases_lt a at)

none_within_none : (at : ℕ) (ps : List Preheat) → count_by (is_within at 0) ps ≡ 0
none_within_none at [] = refl
none_within_none at (p ∷ ps) = sum_by-cons (λ (p : Preheat). cond (is_within at 0 p) 1 0) p ps ∙ omega (arith, out at p.at, none_within_none at ps)

inserts_counted : (d : ℕ → ℕ) (at : ℕ) (ps : List Preheat) (ls : List LayerPlan) → sum_by (λ l. length l.inserts) (heated_from d at ps ls) ≡ count_by (is_within at (path_counts_of ls)) ps
inserts_counted d at ps [] = sym (none_within_none at ps)
inserts_counted d at ps (l ∷ ls) =
    let n = path_count_of l in
    let here : length (inserts_at d at n ps) ≡ count_by (is_within at n) ps = length-map (filter (is_within at n) ps) (insert_of d at) ∙ length-filter (is_within at n) ps in
    let total : path_counts_of (l ∷ ls) ≡ n + path_counts_of ls = sum_by-cons path_count_of l ls in
    sum_by-cons (λ (l : LayerPlan). length l.inserts) (record l { inserts = inserts_at d at n ps }) (heated_from d (at + n) ps ls)
    ∙ omega (arith, here, inserts_counted d (at + n) ps ls, counts_more at n (path_counts_of ls) ps, ap (λ m. count_by (is_within at m) ps) total)

all_counted : (n : ℕ) (ps : List Preheat) → All (λ p. p.at < n) ps → count_by (is_within 0 n) ps ≡ length ps
all_counted n [] h = refl
all_counted n (p ∷ ps) h =
    let one : is_within 0 n p ≡ true = rw (le-leb 0 p.at (omega arith), lt-ltb p.at (0 + n) (omega (arith, All-head (λ (p : Preheat). p.at < n) p ps h))) refl in
    sum_by-cons (λ (p : Preheat). cond (is_within 0 n p) 1 0) p ps ∙ omega (arith, cond-true {A = ℕ} (is_within 0 n p) 1 0 one, all_counted n ps (All-tail (λ (p : Preheat). p.at < n) p ps h))

pub all_stand : (r : Rules) (plans : List LayerPlan) → sum_by (λ l. length l.inserts) (completed_of r plans) ≡ length (preheats_in r plans)
all_stand r plans =
    let led = with_leads r.speed origin plans in
    let ps = preheats_of r led in
    let n = path_counts_of led in
    let size : length (whole_of led) ≡ n = length-steps_from 0 led in
    inserts_counted r.degrees 0 ps led ∙ all_counted n ps (All-weaker (λ (p : Preheat). p.at < 0 + length (whole_of led)) (λ (p : Preheat). p.at < n) (λ p h. omega (arith, h, size)) ps (preheats-lt r [] (whole_of led)))

-- the preheats of a layer's boundaries stand in its plan
heated-stands : (d : ℕ → ℕ) (at : ℕ) (ps : List Preheat) (ls below above : List LayerPlan) (l : LayerPlan) → heated_from d at ps ls ≡ below ++ l ∷ above
    → l.inserts ≡ inserts_at d (at + path_counts_of below) (path_count_of l) ps
heated-stands d at ps [] [] above l e = absurd (cc e)
heated-stands d at ps [] (y ∷ ys) above l e = absurd (cc e)
heated-stands d at ps (x ∷ xs) [] above l e =
    let same : record x { inserts = inserts_at d at (path_count_of x) ps } ≡ l = cc e in
    let here : at ≡ at + path_counts_of [] = omega arith in
    subst (λ (k : LayerPlan). k.inserts ≡ inserts_at d (at + path_counts_of []) (path_count_of k) ps) same (ap (λ n. inserts_at d n (path_count_of x) ps) here)
heated-stands d at ps (x ∷ xs) (y ∷ ys) above l e =
    let same : record x { inserts = inserts_at d at (path_count_of x) ps } ≡ y = cc e in
    let others : heated_from d (at + path_count_of x) ps xs ≡ ys ++ l ∷ above = cc e in
    let n : path_count_of x ≡ path_count_of y = ap path_count_of same in
    let there : (at + path_count_of x) + path_counts_of ys ≡ at + path_counts_of (y ∷ ys) = omega (arith, n, sum_by-cons path_count_of y ys) in
    heated-stands d (at + path_count_of x) ps xs ys above l others ∙ ap (λ n. inserts_at d n (path_count_of l) ps) there

pub stand_there : (r : Rules) (plans below above : List LayerPlan) (l : LayerPlan) → completed_of r plans ≡ below ++ l ∷ above
    → l.inserts ≡ inserts_at r.degrees (path_counts_of below) (path_count_of l) (preheats_in r plans)
stand_there r plans below above l e = heated-stands r.degrees 0 (preheats_in r plans) (with_leads r.speed origin plans) below above l e ∙ ap (λ n. inserts_at r.degrees n (path_count_of l) (preheats_in r plans)) (omega arith)
