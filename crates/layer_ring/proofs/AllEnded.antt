-- A ring whose workers have all ended.
use Rattle.std.proofs.Common.{◌≡◌, ◌≢◌, ℕ, ◌+◌, ◌-◌, ◌<◌, ◌≤◌, Bool, true, false, cond, Option, Some, None, IsSome, is_some, List, [], ◌∷◌, ◌++◌, length, refl, sym, ap, ◌∙◌, subst, ⊎_elim, arith, eq-eqb}
use mathlib.Core.Logic.{dite}
use native.Mathlib.Decide.{dec_le}
use mathlib.Core.List.{IsPrefix}
use Rattle.ring_core.specs.declared.event.Event.{Event}
use Rattle.ring_core.specs.declared.event.Event.TheVariants.{Claim, Place, Take, Back, Halt}
use Rattle.ring_core.specs.declared.event.Cause.{Cause}
use Rattle.ring_core.specs.Core.{State, start, held_by, first_cause, then_event, after, reached, IsRun, Stage, resting, stage_after, own, stage}
use Rattle.ring_core.specs.Laws.{Orderly, SawNoTurn, turn_of, takes, backs, one_if}
use Rattle.ring_core.specs.Keeps.{Waits}
use Rattle.slice_base.specs.Causes.{Rose}
use Rattle.layer_ring.specs.Ends.{IsRefused}
use Rattle.layer_ring.specs.Inner.Seats.{SawEnd}

after-both : (s : State) (xs ys : List Event) → after s (xs ++ ys) ≡ after (after s xs) ys
after-both s [] ys = refl
after-both s (x ∷ xs) ys = after-both (then_event s x) xs ys

first_stays : (o : Option Cause) (k : Cause) → IsSome o → IsSome (first_cause o k)
first_stays None k h = absurd (cc h)
first_stays (Some j) k h = refl

cause_stays : (s : State) (es : List Event) → IsSome s.cause → IsSome (after s es).cause
cause_stays s [] h = h
cause_stays s (Claim w l ∷ es) h = cause_stays (then_event s (Claim w l)) es h
cause_stays s (Place w l ∷ es) h = cause_stays (then_event s (Place w l)) es h
cause_stays s (Take w l ∷ es) h = cause_stays (then_event s (Take w l)) es h
cause_stays s (Back w l ∷ es) h = cause_stays (then_event s (Back w l)) es h
cause_stays s (Halt w k ∷ es) h = cause_stays (then_event s (Halt w k)) es (first_stays s.cause k h)

claims_stay : (s : State) (es : List Event) → s.claimed ≤ (after s es).claimed
claims_stay s [] = omega arith
claims_stay s (Claim w l ∷ es) = let h = claims_stay (then_event s (Claim w l)) es in omega (arith, h)
claims_stay s (Place w l ∷ es) = claims_stay (then_event s (Place w l)) es
claims_stay s (Take w l ∷ es) = claims_stay (then_event s (Take w l)) es
claims_stay s (Back w l ∷ es) = claims_stay (then_event s (Back w l)) es
claims_stay s (Halt w k ∷ es) = claims_stay (then_event s (Halt w k)) es

behind : (xs es : List Event) → IsPrefix xs es → (ys : List Event) × (reached es ≡ after (reached xs) ys)
behind xs es p = (p.0, sym (ap reached p.1) ∙ after-both start xs p.0)

-- the worker's stage is the one at its end
at_end : (n w : ℕ) (es : List Event) (s : SawEnd n w es) → stage w es ≡ stage w s.seen
at_end n w es s = ap (stage_after resting) s.all_own

free_turn : (n w : ℕ) (es : List Event) → SawEnd n w es → (stage w es).turn ≡ None
free_turn n w es s = ap (λ (x : Stage). x.turn) (at_end n w es s) ∙ s.ended.turn

turn_held : (s : State) (h : ℕ) → s.holder ≡ Some h → turn_of s h ≢ None
turn_held s h is = λ e. absurd (cc (sym (ap (λ b. cond b (Some (s.taken - 1)) None) (ap (λ o. held_by o h) is ∙ eq-eqb h h refl)) ∙ e))

no_stage : (w : ℕ) (es : List Event) → own w es ≡ [] → (stage w es).turn ≡ None
no_stage w es none = ap (λ xs. (stage_after resting xs).turn) none

nobody : (n m : ℕ) (es : List Event) (o : Option ℕ) → (reached es).holder ≡ o → Orderly n m es → ((v : ℕ) → v < m → SawEnd n v es) → o ≡ None
nobody n m es None is h ends = refl
nobody n m es (Some w) is h ends =
    let free : (stage w es).turn ≡ None = dite (dec_le m w) (λ le. no_stage w es (h.no_others w le)) (λ gt. free_turn n w es (ends w (omega (arith, gt)))) in
    absurd (turn_held (reached es) w is (sym (h.own_tells w).turn ∙ free))

-- nobody holds the turn
pub nobody_holds : (n m : ℕ) (es : List Event) → Orderly n m es → ((v : ℕ) → v < m → SawEnd n v es) → (reached es).holder ≡ None
nobody_holds n m es h ends = nobody n m es (reached es).holder refl h ends

cause_found : (xs es : List Event) → IsPrefix xs es → IsSome (reached xs).cause → IsSome (reached es).cause
cause_found xs es p h = let b = behind xs es p in subst (λ (s : State). IsSome s.cause) (sym b.1) (cause_stays (reached xs) b.0 h)

no_cause : (es : List Event) → (reached es).cause ≡ None → IsSome (reached es).cause → ⊥
no_cause es none some = absurd (cc (some, none))

halted_not : (n w : ℕ) (es : List Event) (s : SawEnd n w es) → (reached es).cause ≡ None → (b : Bool) → (stage w s.seen).halted ≡ b → b ≡ false
halted_not n w es s none false is = refl
halted_not n w es s none true is = absurd (no_cause es none (cause_found s.seen es s.before (s.ended.halted is)))

-- without a cause this worker has no layer in work
pub nothing_in_work : (n w : ℕ) (es : List Event) → SawEnd n w es → (reached es).cause ≡ None → (stage w es).work ≡ None
nothing_in_work n w es s none =
    ap (λ (x : Stage). x.work) (at_end n w es s) ∙ s.ended.work (halted_not n w es s none (stage w s.seen).halted refl)

over_now : (n w : ℕ) (es : List Event) (s : SawEnd n w es) → (reached es).cause ≡ None → ((reached s.seen).claimed ≡ n) × IsRefused s.seen
over_now n w es s none = ⊎_elim (λ k. absurd (no_cause es none (cause_found s.seen es s.before k))) (λ r. r) s.ended.over

-- without a cause its last look was a refused take
pub saw_no_turn : (n w : ℕ) (es : List Event) → SawEnd n w es → (reached es).cause ≡ None → SawNoTurn w es
saw_no_turn n w es s none =
    let r = (over_now n w es s none).1 in record { seen = s.seen; before = s.before; all_own = s.all_own; why = r.why; refused = r.refused }

-- without a cause all layers are claimed
pub all_claimed : (n m w : ℕ) (es : List Event) → Orderly n m es → SawEnd n w es → (reached es).cause ≡ None → (reached es).claimed ≡ n
all_claimed n m w es h s none =
    let c = (over_now n w es s none).0 in
    let b = behind s.seen es s.before in
    let k = claims_stay (reached s.seen) b.0 in
    let e : (reached es).claimed ≡ (after (reached s.seen) b.0).claimed = ap (λ (x : State). x.claimed) b.1 in
    let u = h.within in omega (arith, c, k, e, u.1)

-- all layers are taken
pub all_taken : (n m : ℕ) (es : List Event)
    → ((n m : ℕ) (es : List Event) → IsRun n m es → Orderly n m es)
    → ((n m : ℕ) (es : List Event) → IsRun n m es → ((v : ℕ) → v < m → ((stage v es).work ≡ None) × ((stage v es).turn ≡ None)) → ((v : ℕ) → (reached es).work v ≡ None) × ((reached es).holder ≡ None))
    → ((n m : ℕ) (es : List Event) → IsRun n m es → (reached es).claimed ≡ n → ((v : ℕ) → (reached es).work v ≡ None) → (reached es).holder ≡ None → (reached es).cause ≡ None → ((v : ℕ) → v < m → SawNoTurn v es) → (reached es).taken ≡ n)
    → IsRun n m es → 0 < m → ((v : ℕ) → v < m → SawEnd n v es) → (reached es).cause ≡ None → (reached es).taken ≡ n
all_taken n m es orderly idle last run some ends none =
    let o = orderly n m es run in
    let i = idle n m es run (λ v lt. (nothing_in_work n v es (ends v lt) none, free_turn n v es (ends v lt))) in
    last n m es run (all_claimed n m 0 es o (ends 0 some) none) i.0 i.1 none (λ v lt. saw_no_turn n v es (ends v lt) none)

-- where the consumer doesn't stand apart and nobody holds the turn, each layer that was taken was given back
backs_are : (n m : ℕ) (es : List Event) → Orderly n m es → length (takes es) ≡ length (backs es) + one_if (is_some (reached es).holder) + one_if (reached es).apart
    → (reached es).holder ≡ None → (reached es).apart ≡ false → length (backs es) ≡ (reached es).taken
backs_are n m es o law free home =
    let a : one_if (is_some (reached es).holder) ≡ 0 = ap (λ h. one_if (is_some h)) free in
    let b : one_if (reached es).apart ≡ 0 = ap one_if home in
    let t = o.taken in
    omega (arith, law, a, b, t)

kept_if : {C N : Type 0} (name : C → N) (is_at : C → ℕ → Type 0) (fault_count : C → ℕ) (planner : N) (faults n : ℕ) (es : List Event) (c : C) → Waits name is_at fault_count planner faults (reached es) c
    → ((reached es).apart ≡ false → length (backs es) ≡ (reached es).taken) → (reached es).taken ≤ n → (Rose faults (fault_count c) → ⊥) → (b : Bool) → (reached es).apart ≡ b
    → (length (backs es) ≤ n) × is_at c (length (backs es))
kept_if name is_at fault_count planner faults n es c w law le calm true e = absurd (calm (w.apart e))
kept_if name is_at fault_count planner faults n es c w law le calm false e = (subst (λ k. k ≤ n) (sym (law e)) le, subst (is_at c) (sym (law e)) (w.fed e))

-- where its faults didn't rise, the consumer is where the layers that were given back leave it
pub kept_at : {C N : Type 0} (name : C → N) (is_at : C → ℕ → Type 0) (fault_count : C → ℕ) (planner : N) (faults n m : ℕ) (es : List Event) (c : C) → Waits name is_at fault_count planner faults (reached es) c
    → length (takes es) ≡ length (backs es) + one_if (is_some (reached es).holder) + one_if (reached es).apart
    → Orderly n m es → (reached es).holder ≡ None → (Rose faults (fault_count c) → ⊥) → (length (backs es) ≤ n) × is_at c (length (backs es))
kept_at name is_at fault_count planner faults n m es c w law o free calm =
    kept_if name is_at fault_count planner faults n es c w (λ e. backs_are n m es o law free e) (let u = o.within in omega (arith, u.0, u.1)) calm (reached es).apart refl
