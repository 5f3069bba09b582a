-- A window follows the plans, also once its oldest is let go; and one that holds nothing follows none.
use Rattle.std.proofs.Common.{ℕ, zero, suc, ◌+◌, ◌-◌, ◌≤◌, ◌<◌, ◌≡◌, List, [], ◌∷◌, ◌++◌, length, take, drop, get_or, Option, None, refl, ap, sym, ◌∙◌, arith, append_assoc, ⊎_elim}
use Rattle.std.specs.List.{sum, sum_by}
use Rattle.std.proofs.lemmas.List.{append-nil, length-append, length-take-le, take-append-drop, take_at, drop-drop, drop_all}
use Rattle.std.proofs.lemmas.List.Sums.{sum_by-append, sum_by-cons, sum-map}
use Rattle.std.proofs.lemmas.Bool.{cases_lt}
use Rattle.slice_base.specs.declared.points.Pt.{Pt}
use Rattle.plan_types.specs.Plans.{LayerPlanValue as LayerPlan}
use Rattle.plan_types.specs.Steps.{Step, whole_of, path_count_of, path_counts_of}
use Rattle.plan_types.specs.Leads.{origin, with_leads}
use Rattle.preheat_core.specs.Times.{all_times, times_of}
use Rattle.preheat_plan.specs.Past.{Rules}
use Rattle.preheat_plan.specs.Preheats.{Preheat, preheats_of}
use Rattle.preheat_plan.specs.Completed.{inserts_at, heated_from, completed_of}
use Rattle.preheat_plan.specs.Held.{Held, let_go, nothing_held}
use Rattle.preheat_plan.specs.declared.uses.Left.{Left}
use Rattle.preheat_plan.specs.Follows.{Follows}
use Rattle.preheat_plan.proofs.Lists.{length-with_leads, length-heated_from}
use Rattle.preheat_plan.proofs.Takes.{take-with_lead, path_counts_of-with_lead, times-whole_of}

pub length-completed_of : (r : Rules) (ls : List LayerPlan) → length (completed_of r ls) ≡ length ls
length-completed_of r ls = length-heated_from r.degrees 0 (preheats_of r (with_leads r.speed origin ls)) (with_leads r.speed origin ls) ∙ length-with_leads r.speed origin ls

counts-heated : (d : ℕ → ℕ) (at n : ℕ) (ps : List Preheat) (ls : List LayerPlan) → path_counts_of (take n (heated_from d at ps ls)) ≡ path_counts_of (take n ls)
counts-heated d at zero ps ls = refl
counts-heated d at (suc n) ps [] = refl
counts-heated d at (suc n) ps (l ∷ ls) = sum_by-cons path_count_of (record l { inserts = inserts_at d at (path_count_of l) ps }) (take n (heated_from d (at + path_count_of l) ps ls)) ∙ ap (λ k. path_count_of l + k) (counts-heated d (at + path_count_of l) n ps ls) ∙ sym (sum_by-cons path_count_of l (take n ls))

counts-completed : (r : Rules) (n : ℕ) (ls : List LayerPlan) → path_counts_of (take n (completed_of r ls)) ≡ path_counts_of (take n ls)
counts-completed r n ls = counts-heated r.degrees 0 n (preheats_of r (with_leads r.speed origin ls)) (with_leads r.speed origin ls) ∙ ap path_counts_of (take-with_lead r.speed origin n ls) ∙ path_counts_of-with_lead r.speed origin (take n ls)

times-heated : (d : ℕ → ℕ) (at n : ℕ) (ps : List Preheat) (ls : List LayerPlan) → all_times (take n (heated_from d at ps ls)) ≡ all_times (take n ls)
times-heated d at zero ps ls = refl
times-heated d at (suc n) ps [] = refl
times-heated d at (suc n) ps (l ∷ ls) = ap (λ ts. times_of l ++ ts) (times-heated d (at + path_count_of l) n ps ls)

-- the time of the first layers of the whole plan is that of the completed ones
time_of_first : (r : Rules) (n : ℕ) (ls : List LayerPlan) → sum_by (λ s. s.time) (whole_of (take n (with_leads r.speed origin ls))) ≡ sum (all_times (take n (completed_of r ls)))
time_of_first r n ls =
    let ld = with_leads r.speed origin ls in
    sym (sum-map (λ (s : Step). s.time) (whole_of (take n ld))) ∙ ap sum (times-whole_of 0 (take n ld) ∙ sym (times-heated r.degrees 0 n (preheats_of r ld) ld))

-- the first n and one more, where the rest begins with that one
one_on : (c rest : List LayerPlan) (p : LayerPlan) (n : ℕ) → n ≤ length c → drop n c ≡ p ∷ rest → take (n + 1) c ≡ take n c ++ p ∷ []
one_on c rest p n fits e =
    let near = take n c in
    let size : length (near ++ p ∷ []) ≡ n + 1 = length-append near (p ∷ []) ∙ ap (λ k. k + 1) (length-take-le n c fits) in
    let parts : c ≡ (near ++ p ∷ []) ++ rest = sym (take-append-drop n c) ∙ ap (λ (ls : List LayerPlan). near ++ ls) e ∙ sym (append_assoc near (p ∷ []) rest) in
    ap (take (n + 1)) parts ∙ take_at (near ++ p ∷ []) rest (n + 1) size

all_times-push : (xs : List LayerPlan) (p : LayerPlan) → sum (all_times (xs ++ p ∷ [])) ≡ sum (all_times xs) + sum (times_of p)
all_times-push [] p = omega (arith, ap sum (append-nil (times_of p)))
all_times-push (x ∷ xs) p = omega (arith, sum_by-append (λ (t : ℕ). t) (times_of x) (all_times (xs ++ p ∷ [])), sum_by-append (λ (t : ℕ). t) (times_of x) (all_times xs), all_times-push xs p)

-- a list that has something behind its first n is longer than that
longer : (c rest : List LayerPlan) (p : LayerPlan) (n : ℕ) → drop n c ≡ p ∷ rest → n ≤ length c
longer c rest p n e = ⊎_elim (λ (short : length c < n). absurd (omega (arith, ap length (sym (drop_all n c (omega (arith, short))) ∙ e)))) (λ (h : n ≤ length c). h) (cases_lt (length c) n)

pub lets_go : (r : Rules) (ls : List LayerPlan) (n : ℕ) (p : LayerPlan) (others : List LayerPlan) (h : Held) → h.plans ≡ p ∷ others → Follows r ls n h → Follows r ls (n + 1) (let_go p others h)
lets_go r ls n p others h first on =
    let c = completed_of r ls in
    let front : drop n c ≡ p ∷ others = sym on.plans ∙ first in
    let more : take (n + 1) c ≡ take n c ++ p ∷ [] = one_on c others p n (longer c others p n front) front in
    let counts : path_counts_of (take (n + 1) ls) ≡ path_counts_of (take n ls) + path_count_of p = omega (arith, counts-completed r (n + 1) ls, ap path_counts_of more, sum_by-append path_count_of (take n c) (p ∷ []), sum_by-cons path_count_of p [], counts-completed r n ls) in
    let clock : h.base_time + sum (times_of p) ≡ sum_by (λ s. s.time) (whole_of (take (n + 1) (with_leads r.speed origin ls))) = omega (arith, on.base_time, time_of_first r n ls, time_of_first r (n + 1) ls, ap (λ (ls : List LayerPlan). sum (all_times ls)) more, all_times-push (take n c) p) in
    record {
      plans = sym (ap (drop 1) front) ∙ drop-drop 1 n c;
      base = ap (λ b. b + path_count_of p) on.base ∙ sym counts;
      base_time = clock;
      next = on.next;
      end = on.end;
      current = on.current;
      size = on.size;
      left = on.left;
    }

none : (e : ℕ) → get_or {A = Option Left} (None ∷ None ∷ None ∷ None ∷ None ∷ None ∷ None ∷ None ∷ []) e None ≡ None
none zero = refl
none (suc zero) = refl
none (suc (suc zero)) = refl
none (suc (suc (suc zero))) = refl
none (suc (suc (suc (suc zero)))) = refl
none (suc (suc (suc (suc (suc zero))))) = refl
none (suc (suc (suc (suc (suc (suc zero)))))) = refl
none (suc (suc (suc (suc (suc (suc (suc zero))))))) = refl
none (suc (suc (suc (suc (suc (suc (suc (suc e)))))))) = refl

pub starts : (r : Rules) → Follows r [] 0 (nothing_held r.first origin)
starts r = record {
  plans = refl;
  base = refl;
  base_time = refl;
  next = refl;
  end = refl;
  current = refl;
  size = refl;
  left = λ e low. none e;
}
