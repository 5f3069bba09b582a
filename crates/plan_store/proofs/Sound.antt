-- A preheat is put at its spot, and the numbers of a window stay in range.
use Rattle.std.proofs.Common.{ℕ, zero, suc, ◌+◌, ◌-◌, ◌*◌, ◌≤◌, ◌<◌, ◌≡◌, ◌^◌, ltb, max, Bool, true, List, [], ◌∷◌, ◌++◌, length, map, take, set, get_or, Option, Some, None, refl, ap, sym, ◌∙◌, subst, arith, ⊎_elim}
use Rattle.std.specs.Prelude.{slice_get}
use Rattle.std.specs.List.{All, sum, sum_by}
use Rattle.std.specs.Option.{option_map}
use Rattle.std.proofs.lemmas.List.{append-nil, length-set, get_or-set_same, get_or-set_other}
use Rattle.std.proofs.lemmas.List.Sums.{sum_by-cons, sum_by-append}
use Rattle.std.proofs.lemmas.List.Elements.{All-head, All-tail, All-cons, All-nil, All-append}
use Rattle.std.proofs.lemmas.Bool.{cond_both, cond-true, cond-false, lt-ltb, le-ltb, cases_eq}
use Rattle.slice_base.specs.declared.points.Pt.{Pt}
use Rattle.slice_base.specs.Plane.{InSquare}
use Rattle.plan_types.specs.declared.plans.ExtruderPlan.{ExtruderPlan}
use Rattle.plan_types.specs.declared.inserts.Insert.{Insert}
use Rattle.plan_types.specs.Paths.{PathValue}
use Rattle.plan_types.specs.Plans.{LayerPlanValue as LayerPlan, time_in, time_of_plan}
use Rattle.plan_types.specs.Inserts.{with_insert}
use Rattle.plan_types.specs.Steps.{path_count_of, path_counts_of}
use Rattle.plan_types.specs.Leads.{timed_paths, timed_plans, before_of, is_first_after, with_lead, lead_of}
use Rattle.preheat_core.specs.declared.spots.Spot.{Spot}
use Rattle.preheat_core.specs.Spots.{IsSpot, number_of}
use Rattle.preheat_core.specs.Times.{times_in, times_with_lead, times_of, all_times, elapsed_of, IsTimed}
use Rattle.preheat_plan.specs.declared.uses.Left.{Left}
use Rattle.preheat_plan.specs.declared.uses.Use.{Use}
use Rattle.preheat_plan.specs.Past.{rules_of}
use Rattle.settings_core.specs.Values.{ExtruderSettingsValue}
use Rattle.plan_types.specs.Extruders.{extruder_of}
use Rattle.plan_types.specs.Jobs.{JobValue}
use Rattle.preheat_core.specs.Places.{place_of}
use Rattle.std.proofs.Math.Nat.{max-le}
use Rattle.preheat_plan.specs.Held.{Held, at_of, left_at, left_of_held, left_time, front_in, use_of, with_insert_at, put_at, place_in, heated, moved}
use Rattle.plan_store.specs.declared.marks.Marks.{Marks}
use Rattle.plan_store.specs.Inner.Sound.{held_of, end_of_held, IsSound, IsWhole}
use Rattle.plan_store.proofs.Timed.{count-timed, time-timed, sum_times_of, is_timed}

some_at : (ls : List LayerPlan) (i : ℕ) → i < length ls → (l : LayerPlan) × (slice_get ls i ≡ Some l)
some_at [] i h = absurd (omega (arith, h))
some_at (l ∷ ls) zero h = (l, refl)
some_at (l ∷ ls) (suc i) h = some_at ls i (omega (arith, h))

put_at_spot : (ls : List LayerPlan) (i k e d : ℕ) (l : LayerPlan) → slice_get ls i ≡ Some l → path_counts_of (take i ls) + k < path_counts_of (take (suc i) ls) → put_at (path_counts_of (take i ls) + k) e d ls ≡ set ls i (with_insert_at k e d l)
put_at_spot [] i k e d l h within = cc
put_at_spot (m ∷ ls) zero k e d l h within =
    let same : m ≡ l = cc in
    let z : 0 + k ≡ k = omega arith in
    let total : path_counts_of (m ∷ []) ≡ path_count_of m + 0 = sum_by-cons path_count_of m [] in
    rw z (cond-true (ltb k (path_count_of m)) (with_insert_at k e d m ∷ ls) (m ∷ put_at (k - path_count_of m) e d ls) (lt-ltb k (path_count_of m) (omega (arith, within, total))) ∙ ap (λ (l : LayerPlan). with_insert_at k e d l ∷ ls) same)
put_at_spot (m ∷ ls) (suc i) k e d l h within =
    let n = path_counts_of (take (suc i) (m ∷ ls)) + k in
    let a : path_counts_of (take (suc i) (m ∷ ls)) ≡ path_count_of m + path_counts_of (take i ls) = sum_by-cons path_count_of m (take i ls) in
    let b : path_counts_of (take (suc (suc i)) (m ∷ ls)) ≡ path_count_of m + path_counts_of (take (suc i) ls) = sum_by-cons path_count_of m (take (suc i) ls) in
    let on : n - path_count_of m ≡ path_counts_of (take i ls) + k = omega (arith, a) in
    cond-false (ltb n (path_count_of m)) (with_insert_at n e d m ∷ ls) (m ∷ put_at (n - path_count_of m) e d ls) (le-ltb n (path_count_of m) (omega (arith, a))) ∙ ap (λ n. m ∷ put_at n e d ls) on ∙ ap (λ (ls : List LayerPlan). m ∷ ls) (put_at_spot ls i k e d l h (omega (arith, within, a, b)))

-- what is put at a spot stands before the path of that number
pub put_done : (ls ms : List LayerPlan) (s : Spot) (n e d : ℕ) → IsSpot ls s → number_of ls s ≡ n → ((l : LayerPlan) → slice_get ls s.slot ≡ Some l → ms ≡ set ls s.slot (with_insert_at s.path e d l)) → ms ≡ put_at n e d ls
put_done ls ms s n e d spot is put =
    let found = some_at ls s.slot spot.slot in
    let k : s.slot + 1 ≡ suc s.slot = omega arith in
    put found.0 found.1 ∙ sym (put_at_spot ls s.slot s.path e d found.0 found.1 (rw k at spot.path)) ∙ ap (λ n. put_at n e d ls) is

-- what an insert leaves as it was
put-counts : (n e d : ℕ) (ls : List LayerPlan) → path_counts_of (put_at n e d ls) ≡ path_counts_of ls
put-counts n e d [] = refl
put-counts n e d (l ∷ ls) = cond_both (ltb n (path_count_of l)) (with_insert_at n e d l ∷ ls) (l ∷ put_at (n - path_count_of l) e d ls) (λ (ms : List LayerPlan). path_counts_of ms ≡ path_counts_of (l ∷ ls)) (λ t. sum_by-cons path_count_of (with_insert_at n e d l) ls ∙ sym (sum_by-cons path_count_of l ls)) (λ t. sum_by-cons path_count_of l (put_at (n - path_count_of l) e d ls) ∙ ap (λ k. path_count_of l + k) (put-counts (n - path_count_of l) e d ls) ∙ sym (sum_by-cons path_count_of l ls))

put-times : (n e d : ℕ) (ls : List LayerPlan) → all_times (put_at n e d ls) ≡ all_times ls
put-times n e d [] = refl
put-times n e d (l ∷ ls) = cond_both (ltb n (path_count_of l)) (with_insert_at n e d l ∷ ls) (l ∷ put_at (n - path_count_of l) e d ls) (λ (ms : List LayerPlan). all_times ms ≡ all_times (l ∷ ls)) (λ t. refl) (λ t. ap (λ ts. times_of l ++ ts) (put-times (n - path_count_of l) e d ls))

put-all : (P : LayerPlan → Type 0) → ((n e d : ℕ) (l : LayerPlan) → P l → P (with_insert_at n e d l)) → (n e d : ℕ) (ls : List LayerPlan) → All P ls → All P (put_at n e d ls)
put-all P keeps n e d [] h = h
put-all P keeps n e d (l ∷ ls) h =
    cond_both (ltb n (path_count_of l)) (with_insert_at n e d l ∷ ls) (l ∷ put_at (n - path_count_of l) e d ls) (All P) (λ t. All-cons P (with_insert_at n e d l) ls (keeps n e d l (All-head P l ls h)) (All-tail P l ls h)) (λ t. All-cons P l (put_at (n - path_count_of l) e d ls) (All-head P l ls h) (put-all P keeps (n - path_count_of l) e d ls (All-tail P l ls h)))

abbrev pub IsSmall : LayerPlan → Type 0
IsSmall l = path_count_of l < 2 ^ 40

pub heated-end : (n e d : ℕ) (ls : List LayerPlan) (m : Marks) → end_of_held (put_at n e d ls) (record m { current = e }) ≡ end_of_held ls m
heated-end n e d ls m = ap (λ k. m.base + k) (put-counts n e d ls)

pub heated-sound : (n e d : ℕ) (ls : List LayerPlan) (m : Marks) → IsSound ls m → IsSound (put_at n e d ls) (record m { current = e })
heated-sound n e d ls m sound = record {
  base = sound.base;
  next = omega (arith, sound.next, put-counts n e d ls);
  left = sound.left;
  size = sound.size;
  small = put-all IsSmall (λ n e d l h. h) n e d ls sound.small;
  timed = put-all IsTimed (λ n e d l h. h) n e d ls sound.timed;
  time = omega (arith, sound.time, ap sum (put-times n e d ls));
  paths = omega (arith, sound.paths, put-counts n e d ls);
  few = sound.few;
  inside = sound.inside;
}

-- what is remembered, so many paths on
abbrev pub marks_on : Marks → ℕ → ℕ → ℕ → Marks
marks_on m e next time = record m { next = next; left = set m.left e (Some (left_at next time)) }

pub moved-sound : (ls : List LayerPlan) (m : Marks) (e n next time : ℕ) → e < 8 → next ≡ m.next + n → next ≤ end_of_held ls m → IsSound ls m → IsSound ls (marks_on m e next time)
moved-sound ls m e n next time low is enough sound = record {
  base = omega (arith, sound.base, is);
  next = enough;
  left = λ d. ⊎_elim
      (λ (same : d ≡ e). subst (λ (o : Option Left). at_of o ≤ next) (sym (ap (λ d. get_or (set m.left e (Some (left_at next time))) d None) same ∙ get_or-set_same m.left e (Some (left_at next time)) None (omega (arith, low, sound.size)))) (omega arith))
      (λ (other : d ≡ e → ⊥). subst (λ (o : Option Left). at_of o ≤ next) (sym (get_or-set_other m.left e d (Some (left_at next time)) None other)) (omega (arith, sound.left d, is)))
      (cases_eq d e);
  size = length-set m.left e (Some (left_at next time)) ∙ sound.size;
  small = sound.small;
  timed = sound.timed;
  time = sound.time;
  paths = sound.paths;
  few = sound.few;
  inside = sound.inside;
}

-- the time since an extruder was left is the definition's
pub since_is : (o : Option Left) (base_time : ℕ) (ls : List LayerPlan) (front : ℕ) → option_map (λ (l : Left). (base_time + elapsed_of ls front) - l.time) o ≡ left_time base_time ls front o
since_is None base_time ls front = refl
since_is (Some l) base_time ls front = refl

-- the front of a switch at the next path isn't behind it
pub front_low : (m : Marks) (e : ℕ) (plans : List LayerPlan) → IsSound plans m → front_in e (held_of plans m) ≤ m.next - m.base
front_low m e plans sound =
    let most : max m.base (at_of (get_or m.left e None)) ≤ m.next = max-le sound.base (sound.left e) in
    omega (arith, most, sound.base)

-- the path that was found is that of the definition
pub spot_done : (job : JobValue) (e : ℕ) (store plans : List LayerPlan) (m : Marks) (s first start : Spot) (x : ExtruderSettingsValue) (left : Option ℕ) (o : Option Left) (f t : ℕ) → plans ≡ store → f ≡ front_in e (held_of store m) → o ≡ get_or m.left e None → t ≡ elapsed_of plans f → left ≡ option_map (λ (l : Left). (m.base_time + t) - l.time) o → x ≡ extruder_of job.settings.extruders e → number_of plans first ≡ f → number_of plans start ≡ m.next - m.base → number_of plans s ≡ place_of plans x left (number_of plans first) (number_of plans start) → number_of store s ≡ place_in (rules_of job) e (held_of store m)
spot_done job e store plans m s first start x left o f t same is_front is_o is_t is_left is_x is_first is_start is_spot =
    let h = held_of store m in
    let X = extruder_of job.settings.extruders e in
    let F = front_in e h in
    let L = left_time m.base_time store F (left_of_held e h) in
    let t_is : t ≡ elapsed_of store F = is_t ∙ ap (λ (ls : List LayerPlan). elapsed_of ls f) same ∙ ap (elapsed_of store) is_front in
    let left_is : left ≡ L = is_left ∙ ap (λ t. option_map (λ (l : Left). (m.base_time + t) - l.time) o) t_is ∙ ap (option_map (λ (l : Left). (m.base_time + elapsed_of store F) - l.time)) is_o ∙ since_is (left_of_held e h) m.base_time store F in
    let a = number_of plans first in
    let b = number_of plans start in
    ap (λ (ls : List LayerPlan). number_of ls s) (sym same)
    ∙ is_spot
    ∙ ap (λ (ls : List LayerPlan). place_of ls x left a b) same
    ∙ ap (λ (x : ExtruderSettingsValue). place_of store x left a b) is_x
    ∙ ap (λ (o : Option ℕ). place_of store X o a b) left_is
    ∙ ap (λ n. place_of store X L n b) (is_first ∙ is_front)
    ∙ ap (λ n. place_of store X L F n) is_start

-- without its oldest plan
pub let_go-whole : (old rest : List LayerPlan) (p : LayerPlan) (m : Marks) (b t : ℕ) → old ≡ p ∷ rest → b ≡ path_count_of p → t ≡ sum (times_of p) → IsWhole old m → IsWhole rest (record m { base = m.base + b; base_time = m.base_time + t })
let_go-whole old rest p m b t parts is_b is_t whole =
    let s = whole.sound in
    let counts : path_counts_of old ≡ b + path_counts_of rest = ap path_counts_of parts ∙ sum_by-cons path_count_of p rest ∙ ap (λ n. n + path_counts_of rest) (sym is_b) in
    let times : sum (all_times old) ≡ t + sum (all_times rest) = ap (λ (ls : List LayerPlan). sum (all_times ls)) parts ∙ sum_by-append (λ (t : ℕ). t) (times_of p) (all_times rest) ∙ ap (λ n. n + sum (all_times rest)) (sym is_t) in
    record {
      sound = record {
        base = omega (arith, whole.all, counts);
        next = omega (arith, s.next, counts);
        left = s.left;
        size = s.size;
        small = All-tail IsSmall p rest (subst (All IsSmall) parts s.small);
        timed = All-tail IsTimed p rest (subst (All IsTimed) parts s.timed);
        time = omega (arith, s.time, times);
        paths = omega (arith, s.paths, counts);
        few = s.few;
        inside = s.inside;
      };
      all = omega (arith, whole.all, counts);
    }

pub first_small : (old rest : List LayerPlan) (p : LayerPlan) (m : Marks) → old ≡ p ∷ rest → IsSound old m → IsSmall p × IsTimed p × (sum (times_of p) ≤ m.taken * 2 ^ 84)
first_small old rest p m parts s =
    let times : sum (all_times old) ≡ sum (times_of p) + sum (all_times rest) = ap (λ (ls : List LayerPlan). sum (all_times ls)) parts ∙ sum_by-append (λ (t : ℕ). t) (times_of p) (all_times rest) in
    (All-head IsSmall p rest (subst (All IsSmall) parts s.small), All-head IsTimed p rest (subst (All IsTimed) parts s.timed), omega (arith, s.time, times))

-- with one plan more
pub counts_push : (ls : List LayerPlan) (l : LayerPlan) → path_counts_of (ls ++ l ∷ []) ≡ path_counts_of ls + path_count_of l
counts_push ls l = omega (arith, sum_by-append path_count_of ls (l ∷ []), sum_by-cons path_count_of l [])

all_times-append : (xs ys : List LayerPlan) → sum (all_times (xs ++ ys)) ≡ sum (all_times xs) + sum (all_times ys)
all_times-append [] ys = omega arith
all_times-append (x ∷ xs) ys = omega (arith, sum_by-append (λ (t : ℕ). t) (times_of x) (all_times (xs ++ ys)), sum_by-append (λ (t : ℕ). t) (times_of x) (all_times xs), all_times-append xs ys)

times_one : (l : LayerPlan) → sum (all_times (l ∷ [])) ≡ sum (times_of l)
times_one l = ap sum (append-nil (times_of l))

pub pushed-sound : (new store : List LayerPlan) (l l' : LayerPlan) (m : Marks) (speed : ℕ → ℕ) (end : Pt) → new ≡ store ++ l' ∷ [] → l' ≡ with_lead speed m.end l → InSquare 1700000 end → path_count_of l < 2 ^ 40 → l'.lead + time_in l.plans ≤ 2 ^ 84 → m.taken < 40000 → IsWhole store m → IsSound new (record m { end = end; taken = m.taken + 1 })
pushed-sound new store l l' m speed end parts is inside small short few whole =
    let s = whole.sound in
    let count : path_count_of l' ≡ path_count_of l = ap path_count_of is ∙ count-timed speed m.end l in
    let counts : path_counts_of new ≡ path_counts_of store + path_count_of l' = ap path_counts_of parts ∙ counts_push store l' in
    let times : sum (all_times new) ≡ sum (all_times store) + sum (times_of l') = ap (λ (ls : List LayerPlan). sum (all_times ls)) parts ∙ all_times-append store (l' ∷ []) ∙ ap (λ n. sum (all_times store) + n) (times_one l') in
    let time : time_in l'.plans ≡ time_in l.plans = ap (λ (l : LayerPlan). time_in l.plans) is ∙ time-timed true (with_lead speed m.end l).lead l.plans in
    let of_l' : sum (times_of l') ≤ l'.lead + time_in l'.plans = sum_times_of l' in
    record {
      base = s.base;
      next = omega (arith, s.next, counts);
      left = s.left;
      size = s.size;
      small = subst (All IsSmall) (sym parts) (All-append IsSmall store (l' ∷ []) s.small (All-cons IsSmall l' [] (omega (arith, small, count)) (All-nil IsSmall)));
      timed = subst (All IsTimed) (sym parts) (All-append IsTimed store (l' ∷ []) s.timed (All-cons IsTimed l' [] (subst IsTimed (sym is) (is_timed speed m.end l)) (All-nil IsTimed)));
      time = omega (arith, s.time, times, of_l', time, short);
      paths = omega (arith, s.paths, counts, count, small);
      few = omega (arith, few);
      inside = inside;
    }

-- the uses of a plan go up to the end
sum_uses : (xs : List ExtruderPlan) → sum_by (λ (u : Use). u.count) (map use_of xs) ≡ sum_by (λ (x : ExtruderPlan). length x.paths) xs
sum_uses [] = refl
sum_uses (x ∷ xs) = omega (arith, sum_by-cons (λ (u : Use). u.count) (use_of x) (map use_of xs), sum_by-cons (λ (x : ExtruderPlan). length x.paths) x xs, sum_uses xs)

pub pushed-end : (new store : List LayerPlan) (l l' : LayerPlan) (m : Marks) (speed : ℕ → ℕ) (us : List Use) → new ≡ store ++ l' ∷ [] → l' ≡ with_lead speed m.end l → us ≡ map use_of l.plans → IsWhole store m → m.next + sum_by (λ (u : Use). u.count) us ≡ m.base + path_counts_of new
pushed-end new store l l' m speed us parts is uses whole =
    omega (arith, whole.all, ap (sum_by (λ (u : Use). u.count)) uses, sum_uses l.plans, ap path_counts_of parts, counts_push store l', ap path_count_of is, count-timed speed m.end l)
