-- One preheat more, and boundaries counted from the held plans on.
use Rattle.std.proofs.Common.{ℕ, zero, suc, ◌+◌, ◌-◌, ◌≤◌, ◌<◌, ◌≡◌, Bool, true, false, cond, ltb, leb, List, [], ◌∷◌, ◌++◌, map, length, take, refl, ap, sym, ◌∙◌, arith, ⊎_elim}
use Rattle.std.specs.List.{All, filter, sum, sum_by}
use Rattle.std.proofs.lemmas.List.{append-nil, length-map, map-append, take-map, take-append-le}
use Rattle.std.proofs.Math.Seq.{take-append-add}
use Rattle.std.proofs.lemmas.List.Sums.{sum_by-append, sum_by-cons, sum-map}
use Rattle.std.proofs.lemmas.List.Elements.{filter-append, All-head, All-tail}
use Rattle.std.proofs.lemmas.Bool.{cond-true, cond-false, lt-ltb, le-ltb, le-leb, lt-leb, and_from, and_left, and_right, cases_lt}
use Rattle.plan_types.specs.Plans.{LayerPlanValue as LayerPlan}
use Rattle.plan_types.specs.Steps.{Step, path_count_of, path_counts_of}
use Rattle.plan_types.specs.declared.inserts.Insert.{Insert}
use Rattle.plan_types.specs.Inserts.{with_insert}
use Rattle.preheat_plan.proofs.HeldFew.{HasFew}
use Rattle.preheat_plan.specs.Preheats.{Preheat}
use Rattle.preheat_plan.specs.Past.{time_before}
use Rattle.preheat_plan.specs.Completed.{is_within, insert_of, inserts_at, heated_from}
use Rattle.preheat_core.specs.Need.{latest}
use Rattle.preheat_plan.specs.Held.{put_at, with_insert_at}

one_more : (d : ℕ → ℕ) (at n : ℕ) (ps : List Preheat) (p : Preheat) (b : Bool) → is_within at n p ≡ b → inserts_at d at n (ps ++ p ∷ []) ≡ cond b (inserts_at d at n ps ++ insert_of d at p ∷ []) (inserts_at d at n ps)
one_more d at n ps p b h =
    let parts : filter (is_within at n) (ps ++ p ∷ []) ≡ filter (is_within at n) ps ++ cond (is_within at n p) (p ∷ []) [] = filter-append (is_within at n) ps (p ∷ []) in
    ap (map (insert_of d at)) (parts ∙ ap (λ b. filter (is_within at n) ps ++ cond b (p ∷ []) []) h) ∙ last d at (filter (is_within at n) ps) p b
  where
    last : (d : ℕ → ℕ) (at : ℕ) (qs : List Preheat) (p : Preheat) (b : Bool) → map (insert_of d at) (qs ++ cond b (p ∷ []) []) ≡ cond b (map (insert_of d at) qs ++ insert_of d at p ∷ []) (map (insert_of d at) qs)
    last d at qs p true = map-append (insert_of d at) qs (p ∷ [])
    last d at qs p false = ap (map (insert_of d at)) (append-nil qs)

before_all : (d : ℕ → ℕ) (at : ℕ) (ps : List Preheat) (p : Preheat) (ls : List LayerPlan) → p.at < at → heated_from d at (ps ++ p ∷ []) ls ≡ heated_from d at ps ls
before_all d at ps p [] h = refl
before_all d at ps p (l ∷ ls) h =
    let n = path_count_of l in
    let same : inserts_at d at n (ps ++ p ∷ []) ≡ inserts_at d at n ps = one_more d at n ps p false (and_left (leb at p.at) (ltb p.at (at + n)) (lt-leb at p.at h)) in
    rw (same, before_all d (at + n) ps p ls (omega (arith, h)))

-- one more preheat is put before its path
pub heated_from-push : (d : ℕ → ℕ) (at : ℕ) (ps : List Preheat) (p : Preheat) (ls : List LayerPlan) → at ≤ p.at → p.at < at + path_counts_of ls → All HasFew (heated_from d at ps ls) → heated_from d at (ps ++ p ∷ []) ls ≡ put_at (p.at - at) p.extruder (d p.extruder) (heated_from d at ps ls)
heated_from-push d at ps p [] low high room = absurd (omega (arith, low, high))
heated_from-push d at ps p (l ∷ ls) low high room =
    let n = path_count_of l in
    let is = inserts_at d at n ps in
    let i = insert_of d at p in
    let l' : LayerPlan = record l { inserts = inserts_at d at n ps } in
    let rest = heated_from d (at + n) ps ls in
    ⊎_elim
    (λ (here : p.at < at + n).
    let more : inserts_at d at n (ps ++ p ∷ []) ≡ inserts_at d at n ps ++ insert_of d at p ∷ [] = one_more d at n ps p true (and_from (leb at p.at) (ltb p.at (at + n)) (le-leb at p.at low) (lt-ltb p.at (at + n) here)) in
    let rhs : put_at (p.at - at) p.extruder (d p.extruder) (l' ∷ rest) ≡ with_insert_at (p.at - at) p.extruder (d p.extruder) l' ∷ rest = cond-true (ltb (p.at - at) n) (with_insert_at (p.at - at) p.extruder (d p.extruder) l' ∷ rest) (l' ∷ put_at (p.at - at - n) p.extruder (d p.extruder) rest) (lt-ltb (p.at - at) n (omega (arith, low, here))) in
    let few : length is ≤ 16 = All-head HasFew l' rest room in
    let put : with_insert i is ≡ is ++ i ∷ [] = cond-true (ltb (length is) 64) (is ++ i ∷ []) is (lt-ltb (length is) 64 (omega (arith, few))) in
    rw (more, before_all d (at + n) ps p ls here) (sym (rhs ∙ ap (λ (js : List Insert). record l' { inserts = js } ∷ rest) put)))
    (λ (later : at + n ≤ p.at).
    let same : inserts_at d at n (ps ++ p ∷ []) ≡ inserts_at d at n ps = one_more d at n ps p false (and_right (leb at p.at) (ltb p.at (at + n)) (le-ltb p.at (at + n) later)) in
    let k : p.at - (at + n) ≡ p.at - at - n = omega arith in
    let total : path_counts_of (l ∷ ls) ≡ n + path_counts_of ls = sum_by-cons path_count_of l ls in
    let rhs : put_at (p.at - at) p.extruder (d p.extruder) (l' ∷ rest) ≡ l' ∷ put_at (p.at - at - n) p.extruder (d p.extruder) rest = cond-false (ltb (p.at - at) n) (with_insert_at (p.at - at) p.extruder (d p.extruder) l' ∷ rest) (l' ∷ put_at (p.at - at - n) p.extruder (d p.extruder) rest) (le-ltb (p.at - at) n (omega (arith, later))) in
    let ih : heated_from d (at + n) (ps ++ p ∷ []) ls ≡ put_at (p.at - at - n) p.extruder (d p.extruder) rest = heated_from-push d (at + n) ps p ls later (omega (arith, total, high)) (All-tail HasFew l' rest room) ∙ ap (λ n. put_at n p.extruder (d p.extruder) rest) k in
    rw (same, ih) (sym rhs))
    (cases_lt p.at (at + n))

-- the search is the same, counted from another boundary
pub latest-shift : (covers covers' : ℕ → Bool) (base front n : ℕ) → ((b : ℕ) → front ≤ b → b ≤ front + n → covers (base + b) ≡ covers' b) → latest covers (base + front) n ≡ base + latest covers' front n
latest-shift covers covers' base front zero same = refl
latest-shift covers covers' base front (suc n) same =
    let e : (base + front) + suc n ≡ base + (front + suc n) = omega arith in
    let h : covers (base + (front + suc n)) ≡ covers' (front + suc n) = same (front + suc n) (omega arith) (omega arith) in
    rw (e, h, latest-shift covers covers' base front n (λ b j k. same b j (omega (arith, k)))) (moved (covers' (front + suc n)) base (front + suc n) (latest covers' front n))
  where
    moved : (b : Bool) (base x y : ℕ) → cond b (base + x) (base + y) ≡ base + cond b x y
    moved true base x y = refl
    moved false base x y = refl

-- the times that are added up are those of the held plans
pub time_before-shift : (old more : List Step) (times rest : List ℕ) (b : ℕ) → times ≡ map (λ s. s.time) more ++ rest → b ≤ length more → time_before (old ++ more) (length old + b) ≡ sum_by (λ s. s.time) old + sum (take b times)
time_before-shift old more times rest b h within =
    let f = λ (s : Step). s.time in
    let a : time_before (old ++ more) (length old + b) ≡ sum_by f old + sum_by f (take b more) = ap (sum_by f) (take-append-add old more b) ∙ sum_by-append f old (take b more) in
    let c : take b times ≡ map f (take b more) = ap (take b) h ∙ take-append-le b (map f more) rest (omega (arith, within, length-map more f)) ∙ take-map f b more in
    a ∙ ap (λ n. sum_by f old + n) (sym (ap sum c ∙ sum-map f (take b more)))
