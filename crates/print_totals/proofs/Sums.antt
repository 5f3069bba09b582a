-- Sums of plans, one plan more.
use Rattle.std.proofs.Common.{ℕ, ◌+◌, ◌*◌, ◌^◌, ◌<◌, ◌≤◌, ◌≡◌, ◌==◌, ◌⊎◌, inl, inr, Bool, true, false, cond, List, [], ◌∷◌, ◌++◌, map, length, get_or, refl, sym, ap, subst, ◌∙◌, arith}
use Rattle.std.specs.List.{All, sum_by}
use Rattle.std.proofs.Math.ListN.{get_or-eq_default}
use Rattle.std.proofs.lemmas.Bool.{cases_lt}
use Rattle.std.proofs.lemmas.List.{length-append}
use Rattle.std.proofs.lemmas.List.Sums.{sum_by_push, sum_by-le-sum_by}
use Rattle.std.proofs.lemmas.List.Elements.{All-nil, All-cons, All-get_or, All-map}
use Rattle.slice_base.specs.declared.points.Pt.{Pt}
use Rattle.plan_types.specs.declared.plans.ExtruderPlan.{ExtruderPlan}
use Rattle.plan_types.specs.Jobs.{JobValue}
use Rattle.plan_types.specs.Leads.{origin, lead_of, end_of_plans, end_of_layers}
use Rattle.plan_types.specs.Orders.{all_extruders}
use Rattle.plan_types.specs.Plans.{LayerPlanValue, time_in, volume_of_plan, volume_in}
use Rattle.preheat_plan.specs.Past.{rules_of}
use Rattle.print_totals.specs.Totals.{time_from, time_of, volume_by, volume_on}
use Rattle.print_totals.specs.Spending.{SpentValue, HasSpent}
use Rattle.print_totals.specs.Inner.Sound.{plus_each}

-- ---- one plan more

time_from-push : (speed : ℕ → ℕ) (at : Pt) (ls : List LayerPlanValue) (l : LayerPlanValue) → time_from speed at (ls ++ l ∷ []) ≡ time_from speed at ls + (lead_of speed (end_of_layers at ls) l.plans + time_in l.plans)
time_from-push speed at [] l = omega arith
time_from-push speed at (k ∷ ks) l = omega (arith, time_from-push speed (end_of_plans at k.plans) ks l)

end_of_layers-push : (at : Pt) (ls : List LayerPlanValue) (l : LayerPlanValue) → end_of_layers at (ls ++ l ∷ []) ≡ end_of_plans (end_of_layers at ls) l.plans
end_of_layers-push at [] l = refl
end_of_layers-push at (k ∷ ks) l = end_of_layers-push (end_of_plans at k.plans) ks l

map_same : (f g : ℕ → ℕ) → ((e : ℕ) → f e ≡ g e) → (es : List ℕ) → map f es ≡ map g es
map_same f g same [] = refl
map_same f g same (e ∷ es) = ap (λ (n : ℕ). n ∷ map f es) (same e) ∙ ap (λ (ns : List ℕ). g e ∷ ns) (map_same f g same es)

volumes-push : (ls : List LayerPlanValue) (l : LayerPlanValue) → map (λ e. volume_on e (ls ++ l ∷ [])) all_extruders ≡ plus_each (map (λ e. volume_on e ls) all_extruders) (map (λ e. volume_by e l.plans) all_extruders)
volumes-push ls l = map_same (λ e. volume_on e (ls ++ l ∷ [])) (λ e. volume_on e ls + volume_by e l.plans) (λ e. sum_by_push (λ (k : LayerPlanValue). volume_by e k.plans) ls l) all_extruders

-- the sums of one plan more
pub spent_more : (job : JobValue) (ls : List LayerPlanValue) (l : LayerPlanValue) (old new : SpentValue) → new.plans ≡ old.plans + 1 → new.end ≡ end_of_plans old.end l.plans
    → new.time ≡ old.time + (lead_of (rules_of job).speed old.end l.plans + time_in l.plans) → new.volumes ≡ plus_each old.volumes (map (λ e. volume_by e l.plans) all_extruders)
    → HasSpent job ls old → HasSpent job (ls ++ l ∷ []) new
spent_more job ls l old new plans end time volumes h = record {
  plans = plans ∙ ap (λ n. n + 1) h.plans ∙ sym (length-append ls (l ∷ []));
  end = end ∙ ap (λ (p : Pt). end_of_plans p l.plans) h.end ∙ sym (end_of_layers-push origin ls l);
  time = time ∙ ap (λ (p : Pt). old.time + (lead_of (rules_of job).speed p l.plans + time_in l.plans)) h.end ∙ ap (λ n. n + (lead_of (rules_of job).speed (end_of_layers origin ls) l.plans + time_in l.plans)) h.time
      ∙ sym (time_from-push (rules_of job).speed origin ls l);
  volumes = volumes ∙ ap (λ (vs : List ℕ). plus_each vs (map (λ e. volume_by e l.plans) all_extruders)) h.volumes ∙ sym (volumes-push ls l);
}

-- ---- bounds

kept_within : (b : Bool) (n : ℕ) → cond b n 0 ≤ n
kept_within true n = omega arith
kept_within false n = omega arith

volume_by-le : (e : ℕ) (xs : List ExtruderPlan) → volume_by e xs ≤ volume_in xs
volume_by-le e xs = sum_by-le-sum_by (λ (x : ExtruderPlan). cond (x.extruder == e) (volume_of_plan x) 0) volume_of_plan xs (λ x. kept_within (x.extruder == e) (volume_of_plan x))

all_within : (m : ℕ) (f : ℕ → ℕ) → ((e : ℕ) → f e ≤ m) → (es : List ℕ) → All (λ v. v ≤ m) (map f es)
all_within m f h [] = All-nil (λ v. v ≤ m)
all_within m f h (e ∷ es) = All-cons (λ v. v ≤ m) (f e) (map f es) (h e) (all_within m f h es)

-- no extruder has a greater volume than all together
pub volumes_small : (m : ℕ) (xs : List ExtruderPlan) → volume_in xs ≤ m → All (λ v. v ≤ m) (map (λ e. volume_by e xs) all_extruders)
volumes_small m xs h = all_within m (λ e. volume_by e xs) (λ e. omega (arith, volume_by-le e xs, h)) all_extruders

all_eight : (P : ℕ → Type 0) (a b c d e f g h : ℕ) → P a → P b → P c → P d → P e → P f → P g → P h → All P (a ∷ b ∷ c ∷ d ∷ e ∷ f ∷ g ∷ h ∷ [])
all_eight P a b c d e f g h pa pb pc pd pe pf pg ph =
    All-cons P a (b ∷ c ∷ d ∷ e ∷ f ∷ g ∷ h ∷ []) pa (All-cons P b (c ∷ d ∷ e ∷ f ∷ g ∷ h ∷ []) pb (All-cons P c (d ∷ e ∷ f ∷ g ∷ h ∷ []) pc (All-cons P d (e ∷ f ∷ g ∷ h ∷ []) pd
    (All-cons P e (f ∷ g ∷ h ∷ []) pe (All-cons P f (g ∷ h ∷ []) pf (All-cons P g (h ∷ []) pg (All-cons P h [] ph (All-nil P))))))))

-- so is a number that isn't there
within : (m : ℕ) (a : List ℕ) (i : ℕ) → All (λ v. v ≤ m) a → get_or a i 0 ≤ m
within m a i h = by_order (cases_lt i (length a))
  where
    by_order : (i < length a) ⊎ (length a ≤ i) → get_or a i 0 ≤ m
    by_order (inl low) = All-get_or (λ v. v ≤ m) a i 0 low h
    by_order (inr past) = let none : get_or a i 0 ≡ 0 = get_or-eq_default a 0 past in omega (arith, none)

-- sums of eight numbers each, one layer more
pub plus_small : (n : ℕ) (a b : List ℕ) → All (λ v. v ≤ n * 2 ^ 90) a → All (λ v. v ≤ 2 ^ 90) b → All (λ v. v ≤ (n + 1) * 2 ^ 90) (plus_each a b)
plus_small n a b ha hb =
    let one : (i : ℕ) → get_or a i 0 + get_or b i 0 ≤ (n + 1) * 2 ^ 90 = λ i. omega (arith, within (n * 2 ^ 90) a i ha, within (2 ^ 90) b i hb) in
    all_eight (λ v. v ≤ (n + 1) * 2 ^ 90) (get_or a 0 0 + get_or b 0 0) (get_or a 1 0 + get_or b 1 0) (get_or a 2 0 + get_or b 2 0) (get_or a 3 0 + get_or b 3 0)
    (get_or a 4 0 + get_or b 4 0) (get_or a 5 0 + get_or b 5 0) (get_or a 6 0 + get_or b 6 0) (get_or a 7 0 + get_or b 7 0)
    (one 0) (one 1) (one 2) (one 3) (one 4) (one 5) (one 6) (one 7)
