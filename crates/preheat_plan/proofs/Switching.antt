-- A window keeps what is remembered, one extruder plan on.
use Rattle.std.proofs.Common.{ℕ, suc, ◌+◌, ◌-◌, ◌≤◌, ◌<◌, ◌≡◌, ◌==◌, Bool, true, false, cond, leb, max, zero, List, [], ◌∷◌, ◌++◌, map, length, take, set, get_or, Option, Some, None, refl, ap, sym, ◌∙◌, subst, arith, append_assoc, ⊎_elim}
use Rattle.std.specs.List.{All, sum, sum_by}
use Rattle.std.proofs.lemmas.List.{append-nil, length-append, length-map, map-append, length-set, get_or-set_same, get_or-set_other, take-take, take-append-le}
use Rattle.std.proofs.lemmas.List.Sums.{sum_by-take-le}
use Rattle.std.proofs.lemmas.Bool.{cond-true, cond-false, eq-eqb, ne_eqb, eqb-true, cases_Bool, cases_eq}
use Rattle.std.proofs.Math.Nat.{le-max_left, le-max_right}
use Rattle.preheat_plan.proofs.Windows.{elapsed_of-le, length-all_times}
use Rattle.plan_types.specs.declared.plans.ExtruderPlan.{ExtruderPlan}
use Rattle.plan_types.specs.Plans.{LayerPlanValue as LayerPlan}
use Rattle.plan_types.specs.Steps.{Step, path_count_of, path_counts_of}
use Rattle.preheat_plan.specs.Past.{Rules, time_before, since, left_of, left_from, or_start, boundary_of, extruder_after}
use Rattle.preheat_plan.specs.Preheats.{Preheat, is_covering, front_of, preheat_of, preheat_at, preheats_after}
use Rattle.preheat_plan.specs.Completed.{heated_from}
use Rattle.preheat_core.specs.Need.{latest}
use Rattle.preheat_plan.proofs.Twice.{extruder_after-append, left_from-append, left_of-le, front_of-le, preheat-le}
use Rattle.preheat_core.specs.Times.{all_times, times_of, elapsed_of}
use Rattle.preheat_core.specs.Places.{since_at}
use Rattle.preheat_plan.specs.Held.{Held, left_at, use_of, put_at, used, switched, heated, moved, place_in, left_of_held, at_of, front_in, left_time, covers_in, placed_in}
use Rattle.preheat_plan.specs.declared.uses.Left.{Left}
use Rattle.preheat_plan.specs.Inner.At.{IsAt}
use Rattle.preheat_plan.specs.Follows.{timed_left}
use Rattle.preheat_plan.proofs.HeldFew.{HasFew}
use Rattle.preheat_plan.proofs.Pieces.{heated_from-push, latest-shift, time_before-shift}

-- paths of one extruder in one layer
abbrev pub AreOf : ℕ → ℕ → List Step → Type 0
AreOf e layer [] = Unit {0}
AreOf e layer (s ∷ ss) = (s.extruder ≡ e) × (s.layer ≡ layer) × AreOf e layer ss

no_more : (r : Rules) (past ss : List Step) (e layer : ℕ) → extruder_after r.first past ≡ e → AreOf e layer ss → preheats_after r past ss ≡ []
no_more r past [] e layer h of = refl
no_more r past (s ∷ ss) e layer h of =
    let same : (s.extruder == extruder_after r.first past) ≡ true = eq-eqb s.extruder (extruder_after r.first past) (of.0 ∙ sym h) in
    let none : preheat_at r past s ≡ [] = cond-true (s.extruder == extruder_after r.first past) [] (preheat_of r past s ∷ []) same in
    rw (none, no_more r (past ++ s ∷ []) ss e layer (extruder_after-append r.first past (s ∷ []) ∙ of.0) of.2) refl

one_only : (r : Rules) (past ss : List Step) (s : Step) (e layer : ℕ) → AreOf e layer (s ∷ ss) → preheats_after r past (s ∷ ss) ≡ preheat_at r past s
one_only r past ss s e layer of =
    ap (λ (ps : List Preheat). preheat_at r past s ++ ps) (no_more r (past ++ s ∷ []) ss e layer (extruder_after-append r.first past (s ∷ []) ∙ of.0) of.2) ∙ append-nil (preheat_at r past s)

extruder_run : (d e layer : ℕ) (ss : List Step) (s : Step) → AreOf e layer (s ∷ ss) → extruder_after d (s ∷ ss) ≡ e
extruder_run d e layer [] s of = of.0
extruder_run d e layer (t ∷ ts) s of = extruder_run s.extruder e layer ts t of.2

left_run : (d e layer at : ℕ) (left : Option ℕ) (s : Step) (ss : List Step) → AreOf e layer (s ∷ ss) → left_from d at left (s ∷ ss) ≡ cond (e == d) (Some (at + length (s ∷ ss))) left
left_run d e layer at left s [] of =
    let k : at + suc 0 ≡ suc at = omega arith in
    rw (of.0, k) refl
left_run d e layer at left s (t ∷ ts) of =
    let k : suc at + suc (length ts) ≡ at + suc (suc (length ts)) = omega arith in
    let ih = left_run d e layer (suc at) (cond (s.extruder == d) (Some (suc at)) left) t ts of.2 in
    let here : cond (s.extruder == d) (Some (suc at)) left ≡ cond (e == d) (Some (suc at)) left = ap (λ x. cond (x == d) (Some (suc at)) left) of.0 in
    ih ∙ (ap (λ (o : Option ℕ). cond (e == d) (Some (suc at + suc (length ts))) o) here ∙ (two (e == d) (suc at + suc (length ts)) (suc at) left ∙ ap (λ n. cond (e == d) (Some n) left) k))
  where
    two : (b : Bool) (x y : ℕ) (o : Option ℕ) → cond b (Some x) (cond b (Some y) o) ≡ cond b (Some x) o
    two true x y o = refl
    two false x y o = refl

left_after : (d e layer : ℕ) (past : List Step) (s : Step) (ss : List Step) → AreOf e layer (s ∷ ss) → left_of d (past ++ (s ∷ ss)) ≡ cond (e == d) (Some (length past + length (s ∷ ss))) (left_of d past)
left_after d e layer past s ss of =
    let k : 0 + length past ≡ length past = omega arith in
    left_from-append d 0 None past (s ∷ ss) ∙ ap (λ n. left_from d n (left_of d past) (s ∷ ss)) k ∙ left_run d e layer (length past) (left_of d past) s ss of

-- time only grows, and what follows doesn't change it
pub time_before-le : (past : List Step) (a b : ℕ) → a ≤ b → time_before past a ≤ time_before past b
time_before-le past a b h = omega (arith, sum_by-take-le (λ (s : Step). s.time) (take b past) a, ap (sum_by (λ (s : Step). s.time)) (take-take a b past h))

pub time_before-more : (past ss : List Step) (b : ℕ) → b ≤ length past → time_before (past ++ ss) b ≡ time_before past b
time_before-more past ss b h = ap (sum_by (λ (s : Step). s.time)) (take-append-le b past ss h)

pub timed_left-more : (past ss : List Step) (o : Option ℕ) → or_start o ≤ length past → timed_left (past ++ ss) o ≡ timed_left past o
timed_left-more past ss None h = refl
timed_left-more past ss (Some b) h = ap (λ n. Some (left_at b n)) (time_before-more past ss b h)

at_of-timed : (past : List Step) (o : Option ℕ) → at_of (timed_left past o) ≡ or_start o
at_of-timed past None = refl
at_of-timed past (Some b) = refl

-- the time since an extruder was left, in the window
since-shift : (past : List Step) (base bt : ℕ) (ls : List LayerPlan) (f b : ℕ) (o : Option ℕ) → or_start o ≤ base + f → f ≤ b → time_before past (base + f) ≡ bt + elapsed_of ls f → time_before past (base + b) ≡ bt + elapsed_of ls b → elapsed_of ls f ≤ elapsed_of ls b → since past o (base + b) ≡ since_at ls f (left_time bt ls f (timed_left past o)) b
since-shift past base bt ls f b None low up at_f at_b grows = refl
since-shift past base bt ls f b (Some a) low up at_f at_b grows =
    let e : time_before past (base + b) - time_before past a ≡ (bt + elapsed_of ls f - time_before past a) + (elapsed_of ls b - elapsed_of ls f) = omega (arith, at_f, at_b, grows, time_before-le past a (base + f) low) in
    ap Some e

-- the search over the held plans finds the preheat's boundary
pub found : (r : Rules) (old more : List Step) (ls : List LayerPlan) (rest : List ℕ) (s : Step) → all_times ls ≡ map (λ s. s.time) more ++ rest → boundary_of (s.layer - r.window) (old ++ more) ≡ length old → (preheat_of r (old ++ more) s).at ≡ length old + placed_in (r.need s.extruder) ls (left_time (sum_by (λ s. s.time) old) ls (max (length old) (or_start (left_of s.extruder (old ++ more))) - length old) (timed_left (old ++ more) (left_of s.extruder (old ++ more)))) (max (length old) (or_start (left_of s.extruder (old ++ more))) - length old) (length (old ++ more) - length old)
found r old more ls rest s parts layer =
    let past = old ++ more in
    let times = all_times ls in
    let base = length old in
    let bt = sum_by (λ (s : Step). s.time) old in
    let e = s.extruder in
    let left = left_of e past in
    let front = front_of r past s.layer e in
    let is_front : front ≡ max base (or_start left) = ap (λ n. max n (or_start left)) layer in
    let f = max base (or_start left) - base in
    let n = length past - front in
    let low : base ≤ max base (or_start left) = le-max_left base (or_start left) in
    let size : length past ≡ base + length more = length-append old more in
    let short : front ≤ length past = front_of-le r past s.layer e in
    let from : front ≡ base + f = omega (arith, is_front, low) in
    let count : n ≡ length past - base - f = omega (arith, is_front, low) in
    let far : f + n ≡ length more = omega (arith, is_front, low, short, size) in
    let start = length past - base in
    let is_start : start ≡ length more = omega (arith, size) in
    let lt = left_time bt ls f (timed_left past left) in
    let covers = is_covering r past e in
    let covers' = covers_in (r.need e) ls lt f start in
    let whole_time : time_before past (length past) ≡ bt + elapsed_of ls start = ap (time_before past) size ∙ time_before-shift old more times rest (length more) parts (omega arith) ∙ ap (λ n. bt + sum (take n times)) (sym is_start) in
    let behind : or_start left ≤ base + f = omega (arith, low, le-max_right base (or_start left)) in
    let at_f : time_before past (base + f) ≡ bt + elapsed_of ls f = time_before-shift old more times rest f parts (omega (arith, far)) in
    let same : (b : ℕ) → f ≤ b → b ≤ f + n → covers (base + b) ≡ covers' b = λ b up h.
    let here : time_before past (base + b) ≡ bt + elapsed_of ls b = time_before-shift old more times rest b parts (omega (arith, far, h)) in
    let span : time_before past (length past) - time_before past (base + b) ≡ elapsed_of ls start - elapsed_of ls b = omega (arith, whole_time, here) in
    let ago : since past left (base + b) ≡ since_at ls f lt b = since-shift past base bt ls f b left behind up at_f here (elapsed_of-le ls f b up) in
    ap (λ n. leb n (time_before past (length past) - time_before past (base + b))) (ap (r.need e) ago) ∙ ap (leb (r.need e (since_at ls f lt b))) span in
    ap (λ x. latest covers x n) from ∙ latest-shift covers covers' base f n same ∙ ap (λ n. base + latest covers' f n) count

-- inserts take no time
pub all_times_heated : (d : ℕ → ℕ) (at : ℕ) (ps : List Preheat) (ls : List LayerPlan) → all_times (heated_from d at ps ls) ≡ all_times ls
all_times_heated d at ps [] = refl
all_times_heated d at ps (l ∷ ls) = ap (λ ts. times_of l ++ ts) (all_times_heated d (at + path_count_of l) ps ls)

-- what is known of the plans and the extruder once a use's switch is done
record IsSwitched (r : Rules) (old more : List Step) (bare : List LayerPlan) (ps : List Preheat) (e : ℕ) (h k : Held) : Type 0 where
  pub plans : k.plans ≡ heated_from r.degrees k.base ps bare
  pub current : k.current ≡ e
  pub base : k.base ≡ h.base
  pub base_time : k.base_time ≡ h.base_time
  pub next : k.next ≡ h.next
  pub left : k.left ≡ h.left

placing : (need : Option ℕ → ℕ) (ls : List LayerPlan) (bt bt' b b' n n' a : ℕ) (o o' : Option Left) → bt ≡ bt' → b ≡ b' → n ≡ n' → o ≡ o' → at_of o' ≡ a → placed_in need ls (left_time bt ls (max b (at_of o) - b) o) (max b (at_of o) - b) (n - b) ≡ placed_in need ls (left_time bt' ls (max b' a - b') o') (max b' a - b') (n' - b')
placing need ls bt bt' b b' n n' a o o' x y z w v =
    ap (λ (o : Option Left). placed_in need ls (left_time bt ls (max b (at_of o) - b) o) (max b (at_of o) - b) (n - b)) w ∙ ap (λ a. placed_in need ls (left_time bt ls (max b a - b) o') (max b a - b) (n - b)) v ∙ ap (λ bt. placed_in need ls (left_time bt ls (max b a - b) o') (max b a - b) (n - b)) x ∙ ap (λ b. placed_in need ls (left_time bt' ls (max b a - b) o') (max b a - b) (n - b)) y ∙ ap (λ n. placed_in need ls (left_time bt' ls (max b' a - b') o') (max b' a - b') (n - b')) z

switched-at : (r : Rules) (old more : List Step) (bare : List LayerPlan) (ps : List Preheat) (rest : List ℕ) (s : Step) (h : Held) → IsAt r old more bare ps h → all_times bare ≡ map (λ s. s.time) more ++ (s.time ∷ rest) → boundary_of (s.layer - r.window) (old ++ more) ≡ length old → s.extruder < 8 → All HasFew (heated_from r.degrees h.base ps bare) → IsSwitched r old more bare (ps ++ preheat_at r (old ++ more) s) s.extruder h (switched r s.extruder h)
switched-at r old more bare ps rest s h at parts layer known room =
    let e = s.extruder in
    let past = old ++ more in
    let p = preheat_of r past s in
    let d = r.degrees in
    ⊎_elim
    (λ (same : (e == h.current) ≡ true).
    let none : preheat_at r past s ≡ [] = cond-true (e == extruder_after r.first past) [] (p ∷ []) (ap (λ d. e == d) (sym at.current) ∙ same) in
    let k : switched r e h ≡ h = cond-true (e == h.current) h (heated r e h) same in
    rw (k, none) (record {
      plans = at.plans ∙ ap (λ (ps : List Preheat). heated_from d h.base ps bare) (sym (append-nil ps));
      current = sym (eqb-true e h.current same);
      base = refl;
      base_time = refl;
      next = refl;
      left = refl;
    }))
    (λ (other : (e == h.current) ≡ false).
    let one : preheat_at r past s ≡ p ∷ [] = cond-false (e == extruder_after r.first past) [] (p ∷ []) (ap (λ d. e == d) (sym at.current) ∙ other) in
    let k : switched r e h ≡ heated r e h = cond-false (e == h.current) h (heated r e h) other in
    let bt = sum_by (λ (s : Step). s.time) old in
    let a = or_start (left_of e past) in
    let o = timed_left past (left_of e past) in
    let times : all_times h.plans ≡ map (λ s. s.time) more ++ (s.time ∷ rest) = ap all_times at.plans ∙ all_times_heated d h.base ps bare ∙ parts in
    let place : p.at ≡ length old + placed_in (r.need e) h.plans (left_time bt h.plans (max (length old) a - length old) o) (max (length old) a - length old) (length past - length old) = found r old more h.plans (s.time ∷ rest) s times layer in
    let mine : place_in r e h ≡ placed_in (r.need e) h.plans (left_time bt h.plans (max (length old) a - length old) o) (max (length old) a - length old) (length past - length old) = placing (r.need e) h.plans h.base_time bt h.base (length old) h.next (length past) a (left_of_held e h) o at.base_time at.base at.next (at.left e known) (at_of-timed past (left_of e past)) in
    let total : path_counts_of bare ≡ length more + suc (length rest) = sym (length-all_times bare) ∙ ap length parts ∙ length-append (map (λ s. s.time) more) (s.time ∷ rest) ∙ ap (λ n. n + suc (length rest)) (length-map more (λ s. s.time)) in
    let size : length past ≡ length old + length more = length-append old more in
    let low : h.base ≤ p.at = omega (arith, at.base, place) in
    let high : p.at < h.base + path_counts_of bare = omega (arith, preheat-le r past s, size, total, at.base) in
    let number : place_in r e h ≡ p.at - h.base = omega (arith, mine, place, at.base) in
    rw (k, one) (record {
      plans = ap (λ (ls : List LayerPlan). put_at (place_in r e h) e (d e) ls) at.plans ∙ ap (λ n. put_at n e (d e) (heated_from d h.base ps bare)) number ∙ sym (heated_from-push d h.base ps p bare low high room);
      current = refl;
      base = refl;
      base_time = refl;
      next = refl;
      left = refl;
    }))
    (cases_Bool (e == h.current))

pub used-at : (r : Rules) (old more ss : List Step) (bare : List LayerPlan) (ps : List Preheat) (rest : List ℕ) (layer : ℕ) (x : ExtruderPlan) (h : Held) → IsAt r old more bare ps h → all_times bare ≡ map (λ s. s.time) more ++ (map (λ s. s.time) ss ++ rest) → boundary_of (layer - r.window) (old ++ more) ≡ length old → AreOf x.extruder layer ss → length ss ≡ length x.paths → x.extruder < 8 → All HasFew (heated_from r.degrees h.base ps bare) → IsAt r old (more ++ ss) bare (ps ++ preheats_after r (old ++ more) ss) (used r (use_of x) h)
used-at r old more [] bare ps rest layer x h at parts boundary of size known room =
    let none : (length x.paths == 0) ≡ true = eq-eqb (length x.paths) 0 (sym size) in
    let k : used r (use_of x) h ≡ h = cond-true (length x.paths == 0) h (moved x.extruder (length x.paths) (switched r x.extruder h)) none in
    rw (k, append-nil more, append-nil ps) at
used-at r old more (s ∷ ss) bare ps rest layer x h at parts boundary of size known room =
    let e = x.extruder in
    let n = length x.paths in
    let past = old ++ more in
    let some : (n == 0) ≡ false = ne_eqb n 0 (λ z. absurd (omega (arith, size, z))) in
    let w = switched r e h in
    let k : used r (use_of x) h ≡ moved e n w = cond-false (n == 0) h (moved e n w) some in
    let sw : IsSwitched r old more bare (ps ++ preheat_at r past s) e h w = subst (λ d. IsSwitched r old more bare (ps ++ preheat_at r past s) d h (switched r d h)) of.0 (switched-at r old more bare ps (map (λ s. s.time) ss ++ rest) s h at parts (rw of.1 boundary) (rw of.0 known) room) in
    let one : preheats_after r past (s ∷ ss) ≡ preheat_at r past s = one_only r past ss s e layer of in
    let joined : old ++ (more ++ (s ∷ ss)) ≡ past ++ (s ∷ ss) = sym (append_assoc old more (s ∷ ss)) in
    let count : length (old ++ (more ++ (s ∷ ss))) ≡ length past + n = ap length joined ∙ length-append past (s ∷ ss) ∙ ap (λ n. length past + n) size in
    let time = λ (s : Step). s.time in
    let long_more : length (more ++ (s ∷ ss)) ≡ length more + n = length-append more (s ∷ ss) ∙ ap (λ n. length more + n) size in
    let past_size : length past ≡ length old + length more = length-append old more in
    let times : all_times w.plans ≡ map time (more ++ (s ∷ ss)) ++ rest = ap all_times sw.plans ∙ all_times_heated r.degrees w.base (ps ++ preheat_at r past s) bare ∙ parts ∙ sym (ap (λ ts. ts ++ rest) (map-append time more (s ∷ ss)) ∙ append_assoc (map time more) (map time (s ∷ ss)) rest) in
    let b = w.next + n - w.base in
    let b_is : b ≡ length more + n = omega (arith, sw.next, at.next, sw.base, at.base, past_size) in
    let at_end : time_before (old ++ (more ++ (s ∷ ss))) (length old + b) ≡ sum_by time old + elapsed_of w.plans b = time_before-shift old (more ++ (s ∷ ss)) (all_times w.plans) rest b times (omega (arith, b_is, long_more)) in
    let end_is : length old + b ≡ length past + length (s ∷ ss) = omega (arith, b_is, past_size, size) in
    let clock : w.base_time + elapsed_of w.plans b ≡ time_before (old ++ (more ++ (s ∷ ss))) (length past + length (s ∷ ss)) = ap (λ t. t + elapsed_of w.plans b) (sw.base_time ∙ at.base_time) ∙ sym at_end ∙ ap (time_before (old ++ (more ++ (s ∷ ss)))) end_is in
    let now : Option Left = Some (left_at (w.next + n) (w.base_time + elapsed_of w.plans b)) in
    rw (k, one) (record {
      base = sw.base ∙ at.base;
      base_time = sw.base_time ∙ at.base_time;
      plans = sw.plans;
      next = ap (λ a. a + n) (sw.next ∙ at.next) ∙ sym count;
      current = sw.current ∙ sym (ap (extruder_after r.first) joined ∙ extruder_after-append r.first past (s ∷ ss) ∙ extruder_run (extruder_after r.first past) e layer ss s of);
      size = length-set w.left e now ∙ ap length sw.left ∙ at.size;
      left = λ d low.
          let after : left_of d (old ++ (more ++ (s ∷ ss))) ≡ cond (e == d) (Some (length past + length (s ∷ ss))) (left_of d past) = ap (left_of d) joined ∙ left_after d e layer past s ss of in
          let long : length w.left ≡ 8 = ap length sw.left ∙ at.size in
          let value : w.next + n ≡ length past + length (s ∷ ss) = omega (arith, sw.next, at.next, size) in
          let full = old ++ (more ++ (s ∷ ss)) in
          ⊎_elim
          (λ (same : d ≡ e). let test : (e == d) ≡ true = eq-eqb e d (sym same) in
          let left : left_of d full ≡ Some (length past + length (s ∷ ss)) = after ∙ cond-true (e == d) (Some (length past + length (s ∷ ss))) (left_of d past) test in
          ap (λ d. get_or (set w.left e now) d None) same ∙ get_or-set_same w.left e now None (omega (arith, known, long)) ∙ ap (λ t. Some (left_at (w.next + n) t)) clock ∙ ap (λ n. Some (left_at n (time_before full (length past + length (s ∷ ss))))) value ∙ sym (ap (timed_left full) left))
          (λ (other : d ≡ e → ⊥). let test : (e == d) ≡ false = ne_eqb e d (λ z. other (sym z)) in
          let left : left_of d full ≡ left_of d past = after ∙ cond-false (e == d) (Some (length past + length (s ∷ ss))) (left_of d past) test in
          get_or-set_other w.left e d now None other ∙ ap (λ (l : List (Option Left)). get_or l d None) sw.left ∙ at.left d low ∙ sym (timed_left-more past (s ∷ ss) (left_of d past) (left_of-le d past)) ∙ ap (λ (ss : List Step). timed_left ss (left_of d past)) (sym joined) ∙ sym (ap (timed_left full) left))
          (cases_eq d e);
    })
