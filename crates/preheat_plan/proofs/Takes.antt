-- A window follows the definitions, one plan on.
use Rattle.std.proofs.Common.{ℕ, zero, suc, ◌+◌, ◌-◌, ◌≤◌, ◌<◌, ◌≡◌, ◌==◌, Bool, true, false, cond, ltb, leb, List, [], ◌∷◌, ◌++◌, map, length, take, drop, refl, ap, sym, subst, ◌∙◌, arith, append_assoc, zero-add}
use Rattle.std.specs.List.{All, filter, flat_map, sum_by, count_by}
use Rattle.std.proofs.lemmas.List.{append-nil, length-append, length-map, map-append, take-append-drop, length-take-le, drop_at, take-append-le, drop-append-le}
use Rattle.std.proofs.lemmas.List.Sums.{sum_by-cons}
use Rattle.std.proofs.lemmas.List.Elements.{All-head, All-tail, All-cons, All-nil, All-append, All-weaker}
use Rattle.std.proofs.lemmas.Bool.{cond_both, cond-false, le-ltb, and_left, lt-leb}
use Rattle.plan_types.specs.Paths.{PathValue as Path}
use Rattle.plan_types.specs.declared.plans.ExtruderPlan.{ExtruderPlan}
use Rattle.plan_types.specs.declared.inserts.Insert.{Insert}
use Rattle.plan_types.specs.Plans.{LayerPlanValue as LayerPlan}
use Rattle.plan_types.specs.Steps.{Step, whole_of, steps_from, steps_of_layer, steps_of_plan, steps_with_lead, path_count_of, path_counts_of}
use Rattle.slice_base.specs.declared.points.Pt.{Pt}
use Rattle.plan_types.specs.Leads.{with_leads, lead_of, end_of_plans, end_of_layers, with_lead, timed_paths, timed_plans, is_first_after, origin}
use Rattle.preheat_plan.specs.Past.{Rules, boundary_of, extruder_after, left_of}
use Rattle.preheat_plan.specs.Preheats.{Preheat, preheat_of, preheat_at, preheats_after, preheats_of}
use Rattle.preheat_plan.specs.Completed.{is_within, insert_of, inserts_at, heated_from, completed_of}
use Rattle.preheat_plan.proofs.Lists.{steps_from-append, with_leads-append, length-with_leads, preheats_after-append, heated_from-append, length-heated_from, length-steps_from, boundary_of-append, all_from, all_below, boundary_of_all}
use Rattle.preheat_plan.proofs.Twice.{preheat-le}
use Rattle.preheat_core.specs.Times.{all_times, times_of, times_in, times_with_lead}
use Rattle.preheat_plan.specs.Held.{Held, use_of, used, used_all, switched, heated, moved, pushed, taken}
use Rattle.preheat_plan.specs.declared.uses.Left.{Left}
use Rattle.preheat_plan.specs.declared.uses.Use.{Use}
use Rattle.preheat_plan.specs.Inner.At.{IsAt}
use Rattle.preheat_plan.specs.Follows.{Follows, timed_left}
use Rattle.preheat_plan.proofs.Room.{IsKnown}
use Rattle.preheat_plan.proofs.HeldFew.{IsOnce, HasFew, held_few}
use Rattle.preheat_plan.proofs.Switching.{AreOf, used-at}

lead_after : ℕ → List Step → ℕ
lead_after lead [] = lead
lead_after lead (s ∷ ss) = 0

with_lead-zero : (ss : List Step) → steps_with_lead 0 ss ≡ ss
with_lead-zero [] = refl
with_lead-zero (s ∷ ss) = ap (λ t. record s { time = t } ∷ ss) (zero-add s.time)

with_lead-split : (lead : ℕ) (xs ys : List Step) → steps_with_lead lead (xs ++ ys) ≡ steps_with_lead lead xs ++ steps_with_lead (lead_after lead xs) ys
unfolding lead_after
with_lead-split lead [] ys = refl
with_lead-split lead (x ∷ xs) ys = ap (λ (zs : List Step). record x { time = lead + x.time } ∷ xs ++ zs) (sym (with_lead-zero ys))

of_map : (e layer : ℕ) (ps : List Path) → AreOf e layer (map {B = Step} (λ p. record { layer = layer; extruder = e; time = p.time }) ps)
of_map e layer [] = tt
of_map e layer (p ∷ ps) = (refl, refl, of_map e layer ps)

of_led : (e layer lead : ℕ) (ss : List Step) → AreOf e layer ss → AreOf e layer (steps_with_lead lead ss)
of_led e layer lead [] h = tt
of_led e layer lead (s ∷ ss) h = (h.0, h.1, h.2)

of_not_below : (e layer m : ℕ) (ss : List Step) → m ≤ layer → AreOf e layer ss → boundary_of m ss ≡ 0
of_not_below e layer m [] h of = refl
of_not_below e layer m (s ∷ ss) h of =
    let c : Step → ℕ = λ s. cond (ltb s.layer m) 1 0 in
    let z : c s ≡ 0 = cond-false {A = ℕ} (ltb s.layer m) 1 0 (le-ltb s.layer m (omega (arith, h, of.1))) in
    omega (arith, sum_by-cons c s ss, z, of_not_below e layer m ss h of.2)

length-with_lead : (lead : ℕ) (ss : List Step) → length (steps_with_lead lead ss) ≡ length ss
length-with_lead lead [] = refl
length-with_lead lead (s ∷ ss) = refl

used_all-at : (r : Rules) (old more : List Step) (bare : List LayerPlan) (ps : List Preheat) (rest : List ℕ) (layer lead : ℕ) (xs : List ExtruderPlan) (h : Held) → IsAt r old more bare ps h → all_times bare ≡ map (λ s. s.time) more ++ (map (λ s. s.time) (steps_with_lead lead (flat_map (steps_of_plan layer) xs)) ++ rest) → boundary_of (layer - r.window) (old ++ more) ≡ length old → All (λ x. x.extruder < 8) xs → ((ss rest : List Step) → steps_with_lead lead (flat_map (steps_of_plan layer) xs) ≡ ss ++ rest → All HasFew (heated_from r.degrees (length old) (ps ++ preheats_after r (old ++ more) ss) bare)) → IsAt r old (more ++ steps_with_lead lead (flat_map (steps_of_plan layer) xs)) bare (ps ++ preheats_after r (old ++ more) (steps_with_lead lead (flat_map (steps_of_plan layer) xs))) (used_all r (map use_of xs) h)
used_all-at r old more bare ps rest layer lead [] h at parts boundary known room = rw (append-nil more, append-nil ps) at
used_all-at r old more bare ps rest layer lead (x ∷ xs) h at parts boundary known room =
    let time = λ (s : Step). s.time in
    let ss = steps_with_lead lead (steps_of_plan layer x) in
    let lead' = lead_after lead (steps_of_plan layer x) in
    let ts = steps_with_lead lead' (flat_map (steps_of_plan layer) xs) in
    let split : steps_with_lead lead (flat_map (steps_of_plan layer) (x ∷ xs)) ≡ ss ++ ts = with_lead-split lead (steps_of_plan layer x) (flat_map (steps_of_plan layer) xs) in
    let of : AreOf x.extruder layer ss = of_led x.extruder layer lead (steps_of_plan layer x) (of_map x.extruder layer x.paths) in
    let size : length ss ≡ length x.paths = length-with_lead lead (steps_of_plan layer x) ∙ length-map x.paths (λ p. record { layer = layer; extruder = x.extruder; time = p.time }) in
    let parts' : all_times bare ≡ map time more ++ (map time ss ++ (map time ts ++ rest)) = parts ∙ ap (λ (zs : List Step). map time more ++ (map time zs ++ rest)) split ∙ ap (λ zs. map time more ++ zs) (ap (λ zs. zs ++ rest) (map-append time ss ts) ∙ append_assoc (map time ss) (map time ts) rest) in
    let here : All HasFew (heated_from r.degrees h.base ps bare) = rw (at.base) (subst (λ (qs : List Preheat). All HasFew (heated_from r.degrees (length old) qs bare)) (append-nil ps) (room [] (steps_with_lead lead (flat_map (steps_of_plan layer) (x ∷ xs))) refl)) in
    let one : IsAt r old (more ++ ss) bare (ps ++ preheats_after r (old ++ more) ss) (used r (use_of x) h) = used-at r old more ss bare ps (map time ts ++ rest) layer x h at parts' boundary of size (All-head (λ (x : ExtruderPlan). x.extruder < 8) x xs known) here in
    let joined : old ++ (more ++ ss) ≡ (old ++ more) ++ ss = sym (append_assoc old more ss) in
    let boundary' : boundary_of (layer - r.window) (old ++ (more ++ ss)) ≡ length old = ap (boundary_of (layer - r.window)) joined ∙ omega (arith, boundary_of-append (layer - r.window) (old ++ more) ss, boundary, of_not_below x.extruder layer (layer - r.window) ss (omega arith) of) in
    let parts'' : all_times bare ≡ map time (more ++ ss) ++ (map time ts ++ rest) = parts' ∙ sym (ap (λ zs. zs ++ (map time ts ++ rest)) (map-append time more ss) ∙ append_assoc (map time more) (map time ss) (map time ts ++ rest)) in
    let room' : (us rest : List Step) → ts ≡ us ++ rest → All HasFew (heated_from r.degrees (length old) ((ps ++ preheats_after r (old ++ more) ss) ++ preheats_after r (old ++ (more ++ ss)) us) bare) = λ us rest e.
    let qs : ps ++ preheats_after r (old ++ more) (ss ++ us) ≡ (ps ++ preheats_after r (old ++ more) ss) ++ preheats_after r (old ++ (more ++ ss)) us = ap (λ (qs : List Preheat). ps ++ qs) (preheats_after-append r (old ++ more) ss us) ∙ sym (append_assoc ps (preheats_after r (old ++ more) ss) (preheats_after r ((old ++ more) ++ ss) us)) ∙ ap (λ (zs : List Step). (ps ++ preheats_after r (old ++ more) ss) ++ preheats_after r zs us) (sym joined) in
    subst (λ (qs : List Preheat). All HasFew (heated_from r.degrees (length old) qs bare)) qs (room (ss ++ us) rest (split ∙ ap (λ (zs : List Step). ss ++ zs) e ∙ sym (append_assoc ss us rest))) in
    let then = used_all-at r old (more ++ ss) bare (ps ++ preheats_after r (old ++ more) ss) rest layer lead' xs (used r (use_of x) h) one parts'' boundary' (All-tail (λ (x : ExtruderPlan). x.extruder < 8) x xs known) room' in
    let paths : more ++ steps_with_lead lead (flat_map (steps_of_plan layer) (x ∷ xs)) ≡ (more ++ ss) ++ ts = ap (λ (zs : List Step). more ++ zs) split ∙ sym (append_assoc more ss ts) in
    let heats : ps ++ preheats_after r (old ++ more) (steps_with_lead lead (flat_map (steps_of_plan layer) (x ∷ xs))) ≡ (ps ++ preheats_after r (old ++ more) ss) ++ preheats_after r (old ++ (more ++ ss)) ts =
    ap (λ (zs : List Step). ps ++ preheats_after r (old ++ more) zs) split ∙ ap (λ (qs : List Preheat). ps ++ qs) (preheats_after-append r (old ++ more) ss ts) ∙ sym (append_assoc ps (preheats_after r (old ++ more) ss) (preheats_after r ((old ++ more) ++ ss) ts)) ∙ ap (λ (zs : List Step). (ps ++ preheats_after r (old ++ more) ss) ++ preheats_after r zs ts) (sym joined) in
    moved_to r old bare (used_all r (map use_of xs) (used r (use_of x) h)) paths heats then
  where
    moved_to : (r : Rules) (old : List Step) (bare : List LayerPlan) (h : Held) {a b : List Step} {p q : List Preheat} → a ≡ b → p ≡ q → IsAt r old b bare q h → IsAt r old a bare p h
    moved_to r old bare h e f t = rw (e, f) t

-- the times and the leads of held plans
times-with_lead : (lead : ℕ) (ss : List Step) → map (λ s. s.time) (steps_with_lead lead ss) ≡ times_with_lead lead (map (λ s. s.time) ss)
times-with_lead lead [] = refl
times-with_lead lead (s ∷ ss) = refl

times-map : (layer e : ℕ) (ps : List Path) → map (λ s. s.time) (map {B = Step} (λ p. record { layer = layer; extruder = e; time = p.time }) ps) ≡ map (λ p. p.time) ps
times-map layer e [] = refl
times-map layer e (p ∷ ps) = ap (λ ts. p.time ∷ ts) (times-map layer e ps)

times-flat : (layer : ℕ) (xs : List ExtruderPlan) → map (λ s. s.time) (flat_map (steps_of_plan layer) xs) ≡ times_in xs
times-flat layer [] = refl
times-flat layer (x ∷ xs) = map-append (λ (s : Step). s.time) (steps_of_plan layer x) (flat_map (steps_of_plan layer) xs) ∙ rw (times-map layer x.extruder x.paths, times-flat layer xs) refl

times-layer : (layer : ℕ) (l : LayerPlan) → map (λ s. s.time) (steps_of_layer layer l) ≡ times_of l
times-layer layer l = times-with_lead l.lead (flat_map (steps_of_plan layer) l.plans) ∙ ap (times_with_lead l.lead) (times-flat layer l.plans)

pub times-whole_of : (layer : ℕ) (ls : List LayerPlan) → map (λ s. s.time) (steps_from layer ls) ≡ all_times ls
times-whole_of layer [] = refl
times-whole_of layer (l ∷ ls) = map-append (λ (s : Step). s.time) (steps_of_layer layer l) (steps_from (suc layer) ls) ∙ rw (times-layer layer l, times-whole_of (suc layer) ls) refl

pub all_times-append : (xs ys : List LayerPlan) → all_times (xs ++ ys) ≡ all_times xs ++ all_times ys
all_times-append [] ys = refl
all_times-append (x ∷ xs) ys = ap (λ ts. times_of x ++ ts) (all_times-append xs ys) ∙ sym (append_assoc (times_of x) (all_times xs) (all_times ys))

-- what leads and times leave as it was
length-timed : (b : Bool) (t : ℕ) (ps : List Path) → length (timed_paths b t ps) ≡ length ps
length-timed b t [] = refl
length-timed b t (p ∷ ps) = ap suc (length-timed false (t + p.time) ps)

uses-timed : (b : Bool) (t : ℕ) (xs : List ExtruderPlan) → map use_of (timed_plans b t xs) ≡ map use_of xs
uses-timed b t [] = refl
uses-timed b t (x ∷ xs) = ap (λ n. record { extruder = x.extruder; count = n } ∷ map use_of (timed_plans (is_first_after b x.paths) (t + sum_by (λ (p : Path). p.time) x.paths) xs)) (length-timed b t x.paths) ∙ ap (λ (us : List Use). use_of x ∷ us) (uses-timed (is_first_after b x.paths) (t + sum_by (λ (p : Path). p.time) x.paths) xs)

counts-timed : (b : Bool) (t : ℕ) (xs : List ExtruderPlan) → sum_by (λ x. length x.paths) (timed_plans b t xs) ≡ sum_by (λ x. length x.paths) xs
counts-timed b t [] = refl
counts-timed b t (x ∷ xs) =
    let n = λ (x : ExtruderPlan). length x.paths in
    omega (arith, sum_by-cons n x xs, sum_by-cons n (record x { paths = timed_paths b t x.paths }) (timed_plans (is_first_after b x.paths) (t + sum_by (λ (p : Path). p.time) x.paths) xs), length-timed b t x.paths, counts-timed (is_first_after b x.paths) (t + sum_by (λ (p : Path). p.time) x.paths) xs)

known-timed : (b : Bool) (t : ℕ) (xs : List ExtruderPlan) → All (λ x. x.extruder < 8) xs → All (λ x. x.extruder < 8) (timed_plans b t xs)
known-timed b t [] h = h
known-timed b t (x ∷ xs) h =
    let P : ExtruderPlan → Type 0 = λ x. x.extruder < 8 in
    All-cons P (record x { paths = timed_paths b t x.paths }) (timed_plans (is_first_after b x.paths) (t + sum_by (λ (p : Path). p.time) x.paths) xs) (All-head P x xs h) (known-timed (is_first_after b x.paths) (t + sum_by (λ (p : Path). p.time) x.paths) xs (All-tail P x xs h))

pub path_count_of-with_lead : (speed : ℕ → ℕ) (at : Pt) (l : LayerPlan) → path_count_of (with_lead speed at l) ≡ path_count_of l
path_count_of-with_lead speed at l = counts-timed true (lead_of speed at l.plans) l.plans

pub path_counts_of-with_lead : (speed : ℕ → ℕ) (at : Pt) (ls : List LayerPlan) → path_counts_of (with_leads speed at ls) ≡ path_counts_of ls
path_counts_of-with_lead speed at [] = refl
path_counts_of-with_lead speed at (l ∷ ls) = omega (arith, sum_by-cons path_count_of l ls, sum_by-cons path_count_of (with_lead speed at l) (with_leads speed (end_of_plans at l.plans) ls), path_count_of-with_lead speed at l, path_counts_of-with_lead speed (end_of_plans at l.plans) ls)

pub take-with_lead : (speed : ℕ → ℕ) (at : Pt) (n : ℕ) (ls : List LayerPlan) → take n (with_leads speed at ls) ≡ with_leads speed at (take n ls)
take-with_lead speed at zero ls = refl
take-with_lead speed at (suc n) [] = refl
take-with_lead speed at (suc n) (l ∷ ls) = ap (λ (ls : List LayerPlan). with_lead speed at l ∷ ls) (take-with_lead speed (end_of_plans at l.plans) n ls)

end_of_layers-push : (at : Pt) (ls : List LayerPlan) (l : LayerPlan) → end_of_layers at (ls ++ l ∷ []) ≡ end_of_plans (end_of_layers at ls) l.plans
end_of_layers-push at [] l = refl
end_of_layers-push at (m ∷ ls) l = end_of_layers-push (end_of_plans at m.plans) ls l

boundary_of_none : (m : ℕ) (ss : List Step) → All (λ s. m ≤ s.layer) ss → boundary_of m ss ≡ 0
boundary_of_none m [] h = refl
boundary_of_none m (s ∷ ss) h =
    let c : Step → ℕ = λ s. cond (ltb s.layer m) 1 0 in
    let z : c s ≡ 0 = cond-false {A = ℕ} (ltb s.layer m) 1 0 (le-ltb s.layer m (All-head (λ (s : Step). m ≤ s.layer) s ss h)) in
    omega (arith, sum_by-cons c s ss, z, boundary_of_none m ss (All-tail (λ (s : Step). m ≤ s.layer) s ss h))

-- the preheats so far stand before the paths so far
pub preheats-lt : (r : Rules) (past ss : List Step) → All (λ p. p.at < length past + length ss) (preheats_after r past ss)
preheats-lt r past [] = All-nil (λ (p : Preheat). p.at < length past + 0)
preheats-lt r past (s ∷ ss) =
    let P : Preheat → Type 0 = λ p. p.at < length past + length (s ∷ ss) in
    let more = past ++ s ∷ [] in
    let size : length more ≡ length past + 1 = length-append past (s ∷ []) in
    let first : All P (preheat_at r past s) = cond_both (s.extruder == extruder_after r.first past) [] (preheat_of r past s ∷ []) (All P) (λ t. All-nil P) (λ t. All-cons P (preheat_of r past s) [] (omega (arith, preheat-le r past s)) (All-nil P)) in
    let rest : All P (preheats_after r more ss) = All-weaker (λ (p : Preheat). p.at < length more + length ss) P (λ p h. omega (arith, h, size)) (preheats_after r more ss) (preheats-lt r more ss) in
    All-append P (preheat_at r past s) (preheats_after r more ss) first rest

none_after : (d : ℕ → ℕ) (at n : ℕ) (ps : List Preheat) → All (λ p. p.at < at) ps → inserts_at d at n ps ≡ []
none_after d at n [] h = refl
none_after d at n (p ∷ ps) h =
    let b : is_within at n p ≡ false = and_left (leb at p.at) (ltb p.at (at + n)) (lt-leb at p.at (All-head (λ (p : Preheat). p.at < at) p ps h)) in
    ap (map (insert_of d at)) (cond-false (is_within at n p) (p ∷ filter (is_within at n) ps) (filter (is_within at n) ps) b) ∙ none_after d at n ps (All-tail (λ (p : Preheat). p.at < at) p ps h)

drop-heated : (d : ℕ → ℕ) (n : ℕ) (ps : List Preheat) (ls : List LayerPlan) → n ≤ length ls → drop n (heated_from d 0 ps ls) ≡ heated_from d (path_counts_of (take n ls)) ps (drop n ls)
drop-heated d n ps ls h =
    let near = take n ls in
    let size : length (heated_from d 0 ps near) ≡ n = length-heated_from d 0 ps near ∙ length-take-le n ls h in
    let k : 0 + path_counts_of near ≡ path_counts_of near = omega arith in
    ap (λ (ls : List LayerPlan). drop n (heated_from d 0 ps ls)) (sym (take-append-drop n ls)) ∙ ap (drop n) (heated_from-append d 0 ps near (drop n ls)) ∙ drop_at (heated_from d 0 ps near) (heated_from d (0 + path_counts_of near) ps (drop n ls)) n size ∙ ap (λ a. heated_from d a ps (drop n ls)) k

end-used : (r : Rules) (u : Use) (h : Held) → (used r u h).end ≡ h.end
end-used r u h = cond_both (u.count == 0) h (moved u.extruder u.count (switched r u.extruder h)) (λ (k : Held). k.end ≡ h.end) (λ t. refl) (λ t. cond_both (u.extruder == h.current) h (heated r u.extruder h) (λ (k : Held). k.end ≡ h.end) (λ t. refl) (λ t. refl))

end-used_all : (r : Rules) (us : List Use) (h : Held) → (used_all r us h).end ≡ h.end
end-used_all r [] h = refl
end-used_all r (u ∷ us) h = end-used_all r us (used r u h) ∙ end-used r u h

-- what holds of each of some plans holds of them with leads
once-timed : (e : ℕ) (b : Bool) (t : ℕ) (xs : List ExtruderPlan) → count_by (λ x. x.extruder == e) (timed_plans b t xs) ≡ count_by (λ x. x.extruder == e) xs
once-timed e b t [] = refl
once-timed e b t (x ∷ xs) =
    let c : ExtruderPlan → ℕ = λ x. cond (x.extruder == e) 1 0 in
    let more = timed_plans (is_first_after b x.paths) (t + sum_by (λ (p : Path). p.time) x.paths) xs in
    sum_by-cons c (record x { paths = timed_paths b t x.paths }) more ∙ ap (λ n. cond (x.extruder == e) 1 0 + n) (once-timed e (is_first_after b x.paths) (t + sum_by (λ (p : Path). p.time) x.paths) xs) ∙ sym (sum_by-cons c x xs)

pub known-leads : (speed : ℕ → ℕ) (at : Pt) (ls : List LayerPlan) → All IsKnown ls → All IsKnown (with_leads speed at ls)
known-leads speed at [] h = h
known-leads speed at (l ∷ ls) h = All-cons IsKnown (with_lead speed at l) (with_leads speed (end_of_plans at l.plans) ls) (known-timed true (lead_of speed at l.plans) l.plans (All-head IsKnown l ls h)) (known-leads speed (end_of_plans at l.plans) ls (All-tail IsKnown l ls h))

pub once-leads : (speed : ℕ → ℕ) (at : Pt) (ls : List LayerPlan) → All IsOnce ls → All IsOnce (with_leads speed at ls)
once-leads speed at [] h = h
once-leads speed at (l ∷ ls) h =
    let here : IsOnce (with_lead speed at l) = λ e. subst (λ n. n ≤ 1) (sym (once-timed e true (lead_of speed at l.plans) l.plans)) (All-head IsOnce l ls h e) in
    All-cons IsOnce (with_lead speed at l) (with_leads speed (end_of_plans at l.plans) ls) here (once-leads speed (end_of_plans at l.plans) ls (All-tail IsOnce l ls h))

-- what holds of each of a list holds of its last and of its rest
pub All-right : {A : Type 0} (P : A → Type 0) (xs ys : List A) → All P (xs ++ ys) → All P ys
All-right P [] ys h = h
All-right P (x ∷ xs) ys h = All-right P xs ys (All-tail P x (xs ++ ys) h)

pub All-last : {A : Type 0} (P : A → Type 0) (xs : List A) (x : A) → All P (xs ++ x ∷ []) → P x
All-last P xs x h = All-head P x [] (All-right P xs (x ∷ []) h)

pub taken-follows : (r : Rules) (ls : List LayerPlan) (l : LayerPlan) (n : ℕ) (h : Held) → n ≡ length ls - r.window → l.inserts ≡ [] → All IsKnown (ls ++ l ∷ []) → All IsOnce (ls ++ l ∷ []) → Follows r ls n h → Follows r (ls ++ l ∷ []) n (taken r l h)
taken-follows r ls l n h is_n empty all_known all_once follows =
    let d = r.degrees in
    let ld = with_leads r.speed origin ls in
    let l' : LayerPlan = with_lead r.speed (end_of_layers origin ls) l in
    let ps = preheats_of r ld in
    let L = length ls in
    let old = whole_of (take n ld) in
    let more = steps_from n (drop n ld) in
    let S = steps_of_layer L l' in
    let qs = preheats_after r (old ++ more) S in
    let bare = drop n ld ++ l' ∷ [] in
    let time = λ (s : Step). s.time in
    let led_size : length ld ≡ L = length-with_leads r.speed origin ls in
    let fits : n ≤ length ld = omega (arith, led_size, is_n) in
    let near_size : length (take n ld) ≡ n = length-take-le n ld fits in
    let zero_n : 0 + length (take n ld) ≡ n = omega (arith, near_size) in
    let past : whole_of ld ≡ old ++ more = ap whole_of (sym (take-append-drop n ld)) ∙ steps_from-append 0 (take n ld) (drop n ld) ∙ ap (λ k. old ++ steps_from k (drop n ld)) zero_n in
    let led_more : with_leads r.speed origin (ls ++ l ∷ []) ≡ ld ++ l' ∷ [] = with_leads-append r.speed origin ls (l ∷ []) in
    let zero_L : 0 + length ld ≡ L = omega (arith, led_size) in
    let whole_more : whole_of (ld ++ l' ∷ []) ≡ old ++ (more ++ S) = steps_from-append 0 ld (l' ∷ []) ∙ ap (λ k. whole_of ld ++ (steps_of_layer k l' ++ [])) zero_L ∙ ap (λ (ss : List Step). whole_of ld ++ ss) (append-nil S) ∙ ap (λ (ss : List Step). ss ++ S) past ∙ append_assoc old more S in
    let old_size : length old ≡ path_counts_of (take n ls) = length-steps_from 0 (take n ld) ∙ ap path_counts_of (take-with_lead r.speed origin n ls) ∙ path_counts_of-with_lead r.speed origin (take n ls) in
    let past_size : length (whole_of ld) ≡ path_counts_of ls = length-steps_from 0 ld ∙ path_counts_of-with_lead r.speed origin ls in
    let base : h.base ≡ length old = follows.base ∙ sym old_size in
    let old_counts : length old ≡ path_counts_of (take n ld) = length-steps_from 0 (take n ld) in
    let more_counts : length more ≡ path_counts_of (drop n ld) = length-steps_from n (drop n ld) in
    let total : h.base + path_counts_of (drop n ld) ≡ length (whole_of ld) = omega (arith, base, more_counts, ap length past, length-append old more) in
    let low : All (λ (p : Preheat). p.at < h.base + path_counts_of (drop n ld)) ps = All-weaker (λ (p : Preheat). p.at < 0 + length (whole_of ld)) (λ (p : Preheat). p.at < h.base + path_counts_of (drop n ld)) (λ p h. omega (arith, h, total)) ps (preheats-lt r [] (whole_of ld)) in
    let none : inserts_at d (h.base + path_counts_of (drop n ld)) (path_count_of l') ps ≡ [] = none_after d (h.base + path_counts_of (drop n ld)) (path_count_of l') ps low in
    let held : h.plans ≡ heated_from d h.base ps (drop n ld) = follows.plans ∙ drop-heated d n ps ld fits ∙ ap (λ a. heated_from d a ps (drop n ld)) (sym (base ∙ old_counts)) in
    let last : with_lead r.speed h.end l ≡ record l' { inserts = inserts_at d (h.base + path_counts_of (drop n ld)) (path_count_of l') ps } = ap (λ (e : Pt). with_lead r.speed e l) follows.end ∙ ap (λ (is : List Insert). record l' { inserts = is }) (empty ∙ sym none) in
    let plans : (pushed r l h).plans ≡ heated_from d h.base ps bare = ap (λ (ls : List LayerPlan). ls ++ with_lead r.speed h.end l ∷ []) held ∙ ap (λ (l : LayerPlan). heated_from d h.base ps (drop n ld) ++ l ∷ []) last ∙ sym (heated_from-append d h.base ps (drop n ld) (l' ∷ [])) in
    let at : IsAt r old more bare ps (pushed r l h) = record {
      base = base;
      base_time = follows.base_time;
      plans = plans;
      next = follows.next ∙ sym past_size ∙ ap length past;
      current = follows.current ∙ ap (extruder_after r.first) past;
      size = follows.size;
      left = λ e k. follows.left e k ∙ ap (λ (ss : List Step). timed_left ss (left_of e ss)) past;
    } in
    let parts : all_times bare ≡ map time more ++ (map time S ++ []) = all_times-append (drop n ld) (l' ∷ []) ∙ ap (λ ts. ts ++ (times_of l' ++ [])) (sym (times-whole_of n (drop n ld))) ∙ ap (λ ts. map time more ++ (ts ++ [])) (sym (times-layer L l')) in
    let split : boundary_of n (old ++ more) ≡ boundary_of n old + boundary_of n more = boundary_of-append n old more in
    let all_old : boundary_of n old ≡ length old = boundary_of_all n old (all_below 0 n (take n ld) (omega (arith, near_size))) in
    let no_more : boundary_of n more ≡ 0 = boundary_of_none n more (all_from n n (drop n ld) (omega arith)) in
    let boundary : boundary_of (L - r.window) (old ++ more) ≡ length old = ap (λ m. boundary_of m (old ++ more)) (sym is_n) ∙ omega (arith, split, all_old, no_more) in
    let known : All (λ x. x.extruder < 8) l.plans = All-last IsKnown ls l all_known in
    let known_led : All IsKnown (ld ++ l' ∷ []) = subst (All IsKnown) led_more (known-leads r.speed origin (ls ++ l ∷ []) all_known) in
    let once_led : All IsOnce (ld ++ l' ∷ []) = subst (All IsOnce) led_more (once-leads r.speed origin (ls ++ l ∷ []) all_once) in
    let joined_led : take n ld ++ bare ≡ ld ++ l' ∷ [] = sym (append_assoc (take n ld) (drop n ld) (l' ∷ [])) ∙ ap (λ (c : List LayerPlan). c ++ l' ∷ []) (take-append-drop n ld) in
    let known_bare : All IsKnown (take n ld ++ bare) = subst (All IsKnown) (sym joined_led) known_led in
    let once_bare : All IsOnce bare = All-right IsOnce (take n ld) bare (subst (All IsOnce) (sym joined_led) once_led) in
    let room : (ss rest : List Step) → S ≡ ss ++ rest → All HasFew (heated_from d (length old) (ps ++ preheats_after r (old ++ more) ss) bare) = λ ss rest e.
    let parts_led : whole_of (take n ld ++ bare) ≡ ((old ++ more) ++ ss) ++ rest = ap whole_of joined_led ∙ whole_more ∙ ap (λ (zs : List Step). old ++ (more ++ zs)) e ∙ sym (append_assoc old more (ss ++ rest)) ∙ sym (append_assoc (old ++ more) ss rest) in
    let heats_led : preheats_after r [] ((old ++ more) ++ ss) ≡ ps ++ preheats_after r (old ++ more) ss = preheats_after-append r [] (old ++ more) ss ∙ ap (λ (zs : List Step). preheats_after r [] zs ++ preheats_after r (old ++ more) ss) (sym past) in
    subst (λ a. All HasFew (heated_from d a (ps ++ preheats_after r (old ++ more) ss) bare)) (sym old_counts) (subst (λ (qs : List Preheat). All HasFew (heated_from d (path_counts_of (take n ld)) qs bare)) heats_led (held_few r (take n ld) bare ((old ++ more) ++ ss) rest parts_led known_bare once_bare)) in
    let uses : map use_of l'.plans ≡ map use_of l.plans = uses-timed true l'.lead l.plans in
    let end : IsAt r old (more ++ S) bare (ps ++ qs) (taken r l h) = subst (λ (us : List Use). IsAt r old (more ++ S) bare (ps ++ qs) (used_all r us (pushed r l h))) uses (used_all-at r old more bare ps [] L l'.lead l'.plans (pushed r l h) at parts boundary (known-timed true l'.lead l.plans known) room) in
    let heats : preheats_of r (ld ++ l' ∷ []) ≡ ps ++ qs = ap (preheats_after r []) (whole_more ∙ sym (append_assoc old more S) ∙ ap (λ (ss : List Step). ss ++ S) (sym past)) ∙ preheats_after-append r [] (whole_of ld) S ∙ ap (λ (ss : List Step). ps ++ preheats_after r ss S) past in
    let same_near : take n (ld ++ l' ∷ []) ≡ take n ld = take-append-le n ld (l' ∷ []) fits in
    let same_rest : drop n (ld ++ l' ∷ []) ≡ bare = drop-append-le n ld (l' ∷ []) fits in
    let done : drop n (completed_of r (ls ++ l ∷ [])) ≡ heated_from d (length old) (ps ++ qs) bare =
    ap (λ (c : List LayerPlan). drop n (heated_from d 0 (preheats_of r c) c)) led_more ∙ ap (λ (ps : List Preheat). drop n (heated_from d 0 ps (ld ++ l' ∷ []))) heats ∙ drop-heated d n (ps ++ qs) (ld ++ l' ∷ []) (omega (arith, fits, length-append ld (l' ∷ []))) ∙ ap (λ (c : List LayerPlan). heated_from d (path_counts_of c) (ps ++ qs) (drop n (ld ++ l' ∷ []))) same_near ∙ ap (λ (c : List LayerPlan). heated_from d (path_counts_of (take n ld)) (ps ++ qs) c) same_rest ∙ ap (λ a. heated_from d a (ps ++ qs) bare) (sym old_counts) in
    let paths : whole_of (with_leads r.speed origin (ls ++ l ∷ [])) ≡ old ++ (more ++ S) = ap whole_of led_more ∙ whole_more in
    record {
      plans = end.plans ∙ ap (λ a. heated_from d a (ps ++ qs) bare) end.base ∙ sym done;
      base_time = end.base_time ∙ ap (λ (c : List LayerPlan). sum_by time (whole_of c)) (sym (ap (take n) led_more ∙ same_near));
      base = end.base ∙ old_size ∙ ap path_counts_of (sym (take-append-le n ls (l ∷ []) (omega (arith, is_n))));
      next = end.next ∙ ap length (sym paths) ∙ length-steps_from 0 (with_leads r.speed origin (ls ++ l ∷ [])) ∙ path_counts_of-with_lead r.speed origin (ls ++ l ∷ []);
      end = end-used_all r (map use_of l.plans) (pushed r l h) ∙ ap (λ (e : Pt). end_of_plans e l.plans) follows.end ∙ sym (end_of_layers-push origin ls l);
      current = end.current ∙ ap (extruder_after r.first) (sym paths);
      size = end.size;
      left = λ e k. end.left e k ∙ ap (λ (ss : List Step). timed_left ss (left_of e ss)) (sym paths);
    }
