-- Times by place, and added up.
use Rattle.std.proofs.Common.{ℕ, zero, suc, ◌+◌, ◌-◌, ◌*◌, ◌^◌, ◌≤◌, ◌<◌, ◌≡◌, Bool, true, false, List, [], ◌∷◌, ◌++◌, length, map, take, drop, get_or, refl, ap, sym, ◌∙◌, arith, add-zero, ⊎_elim}
use Rattle.std.specs.List.{sum, sum_by, All}
use Rattle.std.proofs.lemmas.List.{length-append, length-map, take_all, take-append-le, drop_more}
use Rattle.std.proofs.lemmas.List.Elements.{All-head, All-tail}
use Rattle.std.proofs.lemmas.List.Sums.{sum_by-cons, sum_by-append, sum_by_more}
use Rattle.std.proofs.lemmas.Bool.{cases_lt}
use Rattle.plan_types.specs.declared.plans.Path.{Path}
use Rattle.plan_types.specs.declared.plans.ExtruderPlan.{ExtruderPlan}
use Rattle.plan_types.specs.declared.plans.LayerPlan.{LayerPlan}
use Rattle.plan_types.specs.Steps.{path_count_of, path_counts_of}
use Rattle.plan_types.specs.Leads.{timed_paths, timed_plans, before_of, is_first_after}
use Rattle.preheat_core.specs.declared.spots.Spot.{Spot}
use Rattle.preheat_core.specs.Spots.{IsSpot, number_of}
use Rattle.preheat_core.specs.Times.{times_in, times_of, times_with_lead, all_times, elapsed_of, IsTimed}
use Rattle.preheat_core.specs.Inner.Befores.{befores_in}

pub length-times_in : (xs : List ExtruderPlan) → length (times_in xs) ≡ sum_by (λ x. length x.paths) xs
length-times_in [] = refl
length-times_in (x ∷ xs) = rw (length-append, length-map, length-times_in xs, sum_by-cons (λ (x : ExtruderPlan). length x.paths) x xs)

length-times_with_lead : (lead : ℕ) (ts : List ℕ) → length (times_with_lead lead ts) ≡ length ts
length-times_with_lead lead [] = refl
length-times_with_lead lead (t ∷ ts) = refl

pub length-times_of : (l : LayerPlan) → length (times_of l) ≡ path_count_of l
length-times_of l = length-times_with_lead l.lead (times_in l.plans) ∙ length-times_in l.plans

pub length-all_times : (ls : List LayerPlan) → length (all_times ls) ≡ path_counts_of ls
length-all_times [] = refl
length-all_times (l ∷ ls) = rw (length-append, length-times_of l, length-all_times ls, sum_by-cons path_count_of l ls)

led_at : (lead : ℕ) (ts : List ℕ) → 0 < length ts → get_or (times_with_lead lead ts) 0 0 ≡ lead + get_or ts 0 0
led_at lead [] h = absurd (omega arith)
led_at lead (t ∷ ts) h = refl

pub led_head : (lead : ℕ) (xs : List ExtruderPlan) (k own : ℕ) → k ≡ 0 → k < sum_by (λ x. length x.paths) xs → own ≡ get_or (times_in xs) k 0 → own + lead ≡ get_or (times_with_lead lead (times_in xs)) k 0
led_head lead xs k own e h o =
    let first : get_or (times_with_lead lead (times_in xs)) 0 0 ≡ lead + get_or (times_in xs) 0 0 = led_at lead (times_in xs) (omega (arith, h, length-times_in xs)) in
    let same : get_or (times_with_lead lead (times_in xs)) k 0 ≡ get_or (times_with_lead lead (times_in xs)) 0 0 = ap (λ n. get_or (times_with_lead lead (times_in xs)) n 0) e in
    let mine : own ≡ get_or (times_in xs) 0 0 = o ∙ ap (λ n. get_or (times_in xs) n 0) e in
    omega (arith, first, same, mine)

-- times that are added up on the way
abbrev sums : ℕ → List ℕ → List ℕ
sums t [] = []
sums t (x ∷ xs) = t ∷ sums (t + x) xs

abbrev first_none : List ℕ → List ℕ
first_none [] = []
first_none (x ∷ xs) = 0 ∷ xs

abbrev own : Path → ℕ
own p = p.time

sums_paths : (t : ℕ) (ps : List Path) → map (λ (p : Path). p.before) (timed_paths false t ps) ≡ sums t (map own ps)
sums_paths t [] = refl
sums_paths t (p ∷ ps) = ap (λ ts. t ∷ ts) (sums_paths (t + p.time) ps)

sums-append : (t : ℕ) (xs ys : List ℕ) → sums t (xs ++ ys) ≡ sums t xs ++ sums (t + sum xs) ys
sums-append t [] ys = let e : t + 0 ≡ t = omega arith in rw e refl
sums-append t (x ∷ xs) ys =
    let e : (t + x) + sum xs ≡ t + sum (x ∷ xs) = omega (arith, sum_by-cons (λ (t : ℕ). t) x xs) in
    ap (λ ts. t ∷ ts) (sums-append (t + x) xs ys ∙ ap (λ n. sums (t + x) xs ++ sums n ys) e)

sum_own : (ps : List Path) → sum (map own ps) ≡ sum_by (λ (p : Path). p.time) ps
sum_own [] = refl
sum_own (p ∷ ps) = omega (arith, sum_own ps, sum_by-cons (λ (t : ℕ). t) p.time (map own ps), sum_by-cons (λ (p : Path). p.time) p ps)

sums_plans : (t : ℕ) (xs : List ExtruderPlan) → befores_in (timed_plans false t xs) ≡ sums t (times_in xs)
sums_plans t [] = refl
sums_plans t (x ∷ xs) =
    let n = sum_by (λ (p : Path). p.time) x.paths in
    let f : (ps : List Path) → timed_plans false t (record x { paths = ps } ∷ xs) ≡ timed_plans false t (record x { paths = ps } ∷ xs) = λ ps. refl in
    both t x.paths xs (sums_plans (t + n) xs) (still x.paths)
  where
    still : (ps : List Path) → is_first_after false ps ≡ false
    still [] = refl
    still (p ∷ ps) = refl

    both : (t : ℕ) (ps : List Path) (xs : List ExtruderPlan) → befores_in (timed_plans false (t + sum_by (λ (p : Path). p.time) ps) xs) ≡ sums (t + sum_by (λ (p : Path). p.time) ps) (times_in xs) → is_first_after false ps ≡ false → map (λ (p : Path). p.before) (timed_paths false t ps) ++ befores_in (timed_plans (is_first_after false ps) (t + sum_by (λ (p : Path). p.time) ps) xs) ≡ sums t (map own ps ++ times_in xs)
    both t ps xs h e = rw e (ap (λ ts. map (λ (p : Path). p.before) (timed_paths false t ps) ++ ts) h ∙ ap (λ ts. ts ++ sums (t + sum_by (λ (p : Path). p.time) ps) (times_in xs)) (sums_paths t ps) ∙ ap (λ n. sums t (map own ps) ++ sums (t + n) (times_in xs)) (sym (sum_own ps)) ∙ sym (sums-append t (map own ps) (times_in xs)))

first_plans : (t : ℕ) (xs : List ExtruderPlan) → befores_in (timed_plans true t xs) ≡ first_none (sums t (times_in xs))
first_plans t [] = refl
first_plans t (x ∷ xs) = by_paths t x.paths xs (first_plans (t + 0) xs)
  where
    by_paths : (t : ℕ) (ps : List Path) (xs : List ExtruderPlan) → befores_in (timed_plans true (t + 0) xs) ≡ first_none (sums (t + 0) (times_in xs)) → map (λ (p : Path). p.before) (timed_paths true t ps) ++ befores_in (timed_plans (is_first_after true ps) (t + sum_by (λ (p : Path). p.time) ps) xs) ≡ first_none (sums t (map own ps ++ times_in xs))
    by_paths t [] xs h = let e : t + 0 ≡ t = omega arith in h ∙ ap (λ n. first_none (sums n (times_in xs))) e
    by_paths t (p ∷ ps) xs h =
        let e : t + sum_by (λ (p : Path). p.time) (p ∷ ps) ≡ (t + p.time) + sum (map own ps) = omega (arith, sum_by-cons (λ (p : Path). p.time) p ps, sum_own ps) in
        ap (λ ts. 0 ∷ ts) (ap (λ n. map (λ (p : Path). p.before) (timed_paths false (t + p.time) ps) ++ befores_in (timed_plans false n xs)) e ∙ ap (λ ts. map (λ (p : Path). p.before) (timed_paths false (t + p.time) ps) ++ ts) (sums_plans ((t + p.time) + sum (map own ps)) xs) ∙ ap (λ ts. ts ++ sums ((t + p.time) + sum (map own ps)) (times_in xs)) (sums_paths (t + p.time) ps) ∙ sym (sums-append (t + p.time) (map own ps) (times_in xs)))

sums_at : (t k : ℕ) (xs : List ℕ) → k < length xs → get_or (sums t xs) k 0 ≡ t + sum (take k xs)
sums_at t k [] h = absurd (omega (arith, h))
sums_at t zero (x ∷ xs) h = omega arith
sums_at t (suc k) (x ∷ xs) h = omega (arith, sums_at (t + x) k xs (omega (arith, h)), sum_by-cons (λ (t : ℕ). t) x (take k xs))

first_at : (lead k : ℕ) (ts : List ℕ) → k < length ts → get_or (first_none (sums lead ts)) k 0 ≡ sum (take k (times_with_lead lead ts))
first_at lead k [] h = absurd (omega (arith, h))
first_at lead zero (t ∷ ts) h = refl
first_at lead (suc k) (t ∷ ts) h = omega (arith, sums_at (lead + t) k ts (omega (arith, h)), sum_by-cons (λ (t : ℕ). t) (lead + t) (take k ts))

pub before_is : (l : LayerPlan) (k : ℕ) → k < path_count_of l → IsTimed l → get_or (befores_in l.plans) k 0 ≡ sum (take k (times_of l))
before_is l k h timed =
    ap (λ xs. get_or (befores_in xs) k 0) timed ∙ ap (λ ts. get_or ts k 0) (first_plans l.lead l.plans) ∙ first_at l.lead k (times_in l.plans) (omega (arith, h, length-times_in l.plans))

pub sum_none : (l : LayerPlan) (n : ℕ) → n ≡ path_count_of l → n ≡ 0 → 0 ≡ sum (times_of l)
sum_none l n e z = none (times_of l) (omega (arith, e, z, length-times_of l))
  where
    none : (ts : List ℕ) → length ts ≡ 0 → 0 ≡ sum ts
    none [] h = refl
    none (t ∷ ts) h = absurd (omega (arith, h))

pub sum_last : (l : LayerPlan) (n before t : ℕ) → n ≡ path_count_of l → 0 < n → before ≡ sum (take (n - 1) (times_of l)) → t ≡ get_or (times_of l) (n - 1) 0 → before + t ≡ sum (times_of l)
sum_last l n before t e some b is =
    let xs = times_of l in
    let size : length xs ≡ n = length-times_of l ∙ sym e in
    let k : n - 1 + 1 ≡ n = omega (arith, some) in
    let all : sum (take (n - 1 + 1) xs) ≡ sum xs = ap sum (ap (λ n. take n xs) k ∙ take_all n xs (omega (arith, size))) in
    omega (arith, b, is, all, sum_by_more (λ (t : ℕ). t) xs (n - 1) 0 (omega (arith, size, some)))

-- the time of the first paths, within the first layer or behind it
pub elapsed_of-here : (l : LayerPlan) (ls : List LayerPlan) (n : ℕ) → n < path_count_of l → elapsed_of (l ∷ ls) n ≡ sum (take n (times_of l))
elapsed_of-here l ls n h = ap sum (take-append-le n (times_of l) (all_times ls) (omega (arith, h, length-times_of l)))

pub elapsed_of-behind : (l : LayerPlan) (ls : List LayerPlan) (n : ℕ) → path_count_of l ≤ n → elapsed_of (l ∷ ls) n ≡ sum (times_of l) + elapsed_of ls (n - path_count_of l)
elapsed_of-behind l ls n h = split (times_of l) (all_times ls) n (path_count_of l) (length-times_of l) h
  where
    split : (xs ys : List ℕ) (n k : ℕ) → length xs ≡ k → k ≤ n → sum (take n (xs ++ ys)) ≡ sum xs + sum (take (n - k) ys)
    split [] ys n k e h = let z : n ≡ n - k = omega (arith, e) in omega (arith, ap (λ m. sum (take m ys)) z)
    split (x ∷ xs) ys zero k e h = absurd (omega (arith, e, h))
    split (x ∷ xs) ys (suc n) k e h =
        let j : suc n - k ≡ n - (k - 1) = omega (arith, e, h) in
        omega (arith, sum_by-cons (λ (t : ℕ). t) x (take n (xs ++ ys)), sum_by-cons (λ (t : ℕ). t) x xs, split xs ys n (k - 1) (omega (arith, e)) (omega (arith, h, e)), ap (λ m. sum (take m ys)) j)

-- what is left of a window, by its first
pub here : (ws : List LayerPlan) (i : ℕ) (l : LayerPlan) → i < length ws → l ≡ get_or ws i l → drop i ws ≡ l ∷ drop (i + 1) ws
here ws i l h is = drop_more ws i l h ∙ ap (λ (y : LayerPlan). y ∷ drop (i + 1) ws) (sym is)

pub here_time : (ws : List LayerPlan) (i : ℕ) (l : LayerPlan) (rest n b time total : ℕ) → i < length ws → l ≡ get_or ws i l → n ≡ path_count_of l → rest < n → b ≡ sum (take rest (times_of l)) → time + elapsed_of (drop i ws) rest ≡ total → time + b ≡ total
here_time ws i l rest n b time total h is count low own all =
    omega (arith, all, own, ap (λ (ls : List LayerPlan). elapsed_of ls rest) (here ws i l h is), elapsed_of-here l (drop (i + 1) ws) rest (omega (arith, low, count)))

pub next_time : (ws : List LayerPlan) (i : ℕ) (l : LayerPlan) (rest n t time total : ℕ) → i < length ws → l ≡ get_or ws i l → n ≡ path_count_of l → n ≤ rest → t ≡ sum (times_of l) → time + elapsed_of (drop i ws) rest ≡ total → (time + t) + elapsed_of (drop (i + 1) ws) (rest - n) ≡ total
next_time ws i l rest n t time total h is count high own all =
    let e : rest - path_count_of l ≡ rest - n = omega (arith, count) in
    omega (arith, all, own, ap (λ (ls : List LayerPlan). elapsed_of ls rest) (here ws i l h is), elapsed_of-behind l (drop (i + 1) ws) rest (omega (arith, high, count)), ap (elapsed_of (drop (i + 1) ws)) e)

pub next_total : (ws : List LayerPlan) (i : ℕ) (l : LayerPlan) (t time total : ℕ) → i < length ws → l ≡ get_or ws i l → t ≡ sum (times_of l) → time + sum (all_times (drop i ws)) ≡ total → (time + t) + sum (all_times (drop (i + 1) ws)) ≡ total
next_total ws i l t time total h is own all =
    omega (arith, all, own, ap (λ (ls : List LayerPlan). sum (all_times ls)) (here ws i l h is), sum_by-append (λ (t : ℕ). t) (times_of l) (all_times (drop (i + 1) ws)))

counts_small : (k : ℕ) (ws : List LayerPlan) → All (λ l. path_count_of l < 2 ^ 40) ws → path_counts_of (take k ws) ≤ k * 2 ^ 40
counts_small zero ws h = omega arith
counts_small (suc k) [] h = omega arith
counts_small (suc k) (w ∷ ws) h =
    omega (arith, sum_by-cons path_count_of w (take k ws), counts_small k ws (All-tail (λ (l : LayerPlan). path_count_of l < 2 ^ 40) w ws h), All-head (λ (l : LayerPlan). path_count_of l < 2 ^ 40) w ws h)

pub number_small : (ws : List LayerPlan) (s : Spot) (k n : ℕ) → All (λ l. path_count_of l < 2 ^ 40) ws → length ws < 2 ^ 32 → IsSpot ws s → k ≤ s.slot → s.slot ≤ k → n ≡ path_counts_of (take k ws) → n + s.path < 2 ^ 73
number_small ws s k n small few spot a b is =
    let e : k ≡ s.slot = omega (arith, a, b) in
    omega (arith, is, ap (λ m. path_counts_of (take m ws)) e, spot.path, spot.slot, few, counts_small (s.slot + 1) ws small)
