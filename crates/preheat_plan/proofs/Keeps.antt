-- What a window keeps of its plans as it takes the next one.
use Rattle.std.proofs.Common.{ℕ, suc, ◌+◌, ◌-◌, ◌≤◌, ◌<◌, ◌≡◌, ◌==◌, Bool, true, ltb, cond, List, [], ◌∷◌, ◌++◌, map, length, refl, ap, sym, ◌∙◌, arith}
use Rattle.std.specs.List.{All, sum_by}
use Rattle.std.proofs.lemmas.List.{length-append}
use Rattle.std.proofs.lemmas.List.Elements.{All-nil, All-cons, All-head, All-tail, All-append}
use Rattle.std.proofs.lemmas.Bool.{cond_both}
use Rattle.slice_base.specs.declared.points.Pt.{Pt}
use Rattle.plan_types.specs.declared.plans.ExtruderPlan.{ExtruderPlan}
use Rattle.plan_types.specs.Paths.{PathValue}
use Rattle.plan_types.specs.Plans.{LayerPlanValue as LayerPlan}
use Rattle.plan_types.specs.Steps.{path_count_of}
use Rattle.plan_types.specs.Leads.{timed_paths, timed_plans, is_first_after, with_lead, lead_of}
use Rattle.preheat_plan.specs.Past.{Rules}
use Rattle.preheat_plan.specs.Completed.{KnowsItsExtruders}
use Rattle.preheat_plan.specs.declared.uses.Use.{Use}
use Rattle.preheat_plan.specs.Held.{Held, use_of, with_insert_at, put_at, place_in, heated, switched, moved, used, used_all, pushed, taken}

put-length : (n e d : ℕ) (ls : List LayerPlan) → length (put_at n e d ls) ≡ length ls
put-length n e d [] = refl
put-length n e d (l ∷ ls) = cond_both (ltb n (path_count_of l)) (with_insert_at n e d l ∷ ls) (l ∷ put_at (n - path_count_of l) e d ls) (λ (ms : List LayerPlan). length ms ≡ length (l ∷ ls)) (λ t. refl) (λ t. ap suc (put-length (n - path_count_of l) e d ls))

put-all : (P : LayerPlan → Type 0) → ((n e d : ℕ) (l : LayerPlan) → P l → P (with_insert_at n e d l)) → (n e d : ℕ) (ls : List LayerPlan) → All P ls → All P (put_at n e d ls)
put-all P keeps n e d [] h = h
put-all P keeps n e d (l ∷ ls) h =
    cond_both (ltb n (path_count_of l)) (with_insert_at n e d l ∷ ls) (l ∷ put_at (n - path_count_of l) e d ls) (All P) (λ t. All-cons P (with_insert_at n e d l) ls (keeps n e d l (All-head P l ls h)) (All-tail P l ls h)) (λ t. All-cons P l (put_at (n - path_count_of l) e d ls) (All-head P l ls h) (put-all P keeps (n - path_count_of l) e d ls (All-tail P l ls h)))

-- whatever a use does to the plans, a put does it
use-keeps : (Q : List LayerPlan → Type 0) → ((n e d : ℕ) (ls : List LayerPlan) → Q ls → Q (put_at n e d ls)) → (r : Rules) (u : Use) (h : Held) → Q h.plans → Q (used r u h).plans
use-keeps Q keeps r u h q =
    let k = switched r u.extruder h in
    let there : Q k.plans = cond_both (u.extruder == h.current) h (heated r u.extruder h) (λ (k : Held). Q k.plans) (λ t. q) (λ t. keeps (place_in r u.extruder h) u.extruder (r.degrees u.extruder) h.plans q) in
    cond_both (u.count == 0) h (moved u.extruder u.count k) (λ (k : Held). Q k.plans) (λ t. q) (λ t. there)

uses-keep : (Q : List LayerPlan → Type 0) → ((n e d : ℕ) (ls : List LayerPlan) → Q ls → Q (put_at n e d ls)) → (r : Rules) (us : List Use) (h : Held) → Q h.plans → Q (used_all r us h).plans
uses-keep Q keeps r [] h q = q
uses-keep Q keeps r (u ∷ us) h q = uses-keep Q keeps r us (used r u h) (use-keeps Q keeps r u h q)

pub taken-longer : (r : Rules) (l : LayerPlan) (h : Held) → length (taken r l h).plans ≡ length h.plans + 1
taken-longer r l h =
    let long = length h.plans + 1 in
    uses-keep (λ (ls : List LayerPlan). length ls ≡ long) (λ n e d ls q. put-length n e d ls ∙ q) r (map use_of l.plans) (pushed r l h) (length-append h.plans (with_lead r.speed h.end l ∷ []))

known-timed : (m : ℕ) (b : Bool) (t : ℕ) (xs : List ExtruderPlan) → All (λ x. x.extruder < m) xs → All (λ x. x.extruder < m) (timed_plans b t xs)
known-timed m b t [] h = h
known-timed m b t (x ∷ xs) h =
    let P : ExtruderPlan → Type 0 = λ x. x.extruder < m in
    let more = timed_plans (is_first_after b x.paths) (t + sum_by (λ (p : PathValue). p.time) x.paths) xs in
    All-cons P (record x { paths = timed_paths b t x.paths }) more (All-head P x xs h) (known-timed m (is_first_after b x.paths) (t + sum_by (λ (p : PathValue). p.time) x.paths) xs (All-tail P x xs h))

pub taken-known : (r : Rules) (m : ℕ) (l : LayerPlan) (h : Held) → All (λ x. x.extruder < m) l.plans → All (KnowsItsExtruders m) h.plans → All (KnowsItsExtruders m) (taken r l h).plans
taken-known r m l h known others =
    let P = KnowsItsExtruders m in
    let l' = with_lead r.speed h.end l in
    let last : P l' = known-timed m true l'.lead l.plans known in
    uses-keep (All P) (λ n e d ls q. put-all P (λ n e d l k. k) n e d ls q) r (map use_of l.plans) (pushed r l h) (All-append P h.plans (l' ∷ []) others (All-cons P l' [] last (All-nil P)))
