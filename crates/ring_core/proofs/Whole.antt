-- What a front of a run leaves, and what a run did that took all layers.
use Rattle.std.proofs.Common.{◌≡◌, ◌≢◌, ℕ, zero, suc, ◌+◌, ◌-◌, ◌<◌, ◌≤◌, ◌==◌, Bool, true, false, cond, Option, Some, None, IsSome, is_some, List, [], ◌∷◌, ◌++◌, length, refl, sym, ap, ◌∙◌, subst, arith, nat_lt, ne_eqb, eq-eqb}
use mathlib.Core.Logic.{dite}
use native.Mathlib.Decide.{ℕ_discrete, dec_le}
use Rattle.ring_core.specs.declared.event.Event.{Event}
use Rattle.ring_core.specs.declared.event.Event.TheVariants.{Claim, Place, Take, Back, Halt}
use Rattle.ring_core.specs.declared.event.Cause.{Cause}
use Rattle.ring_core.specs.Core.{State, start, put, held_by, first_cause, then_event, Comes, RunsFrom, IsRun, after, reached, stage}
use Rattle.ring_core.specs.Laws.{claims, places, takes, backs, one_if, how_often, CountsFrom, IsWhole, IsFront}
use Rattle.ring_core.proofs.Places.{put-same, put-other}
use Rattle.ring_core.proofs.Runs.{runs_front, after-append, takes_in_order, takes_taken}
use Rattle.ring_core.proofs.Sound.{Sound, sound_event, sound_after, sound_start}
use Rattle.ring_core.proofs.Stages.{tells, held_is}

-- ---- what only grows

first_stays : (o : Option Cause) (j k : Cause) → o ≡ Some k → first_cause o j ≡ Some k
first_stays None j k h = absurd (cc h)
first_stays (Some i) j k h = h

cause_stays : (s : State) (es : List Event) (k : Cause) → s.cause ≡ Some k → (after s es).cause ≡ Some k
cause_stays s [] k h = h
cause_stays s (Claim w l ∷ es) k h = cause_stays (then_event s (Claim w l)) es k h
cause_stays s (Place w l ∷ es) k h = cause_stays (then_event s (Place w l)) es k h
cause_stays s (Take w l ∷ es) k h = cause_stays (then_event s (Take w l)) es k h
cause_stays s (Back w l ∷ es) k h = cause_stays (then_event s (Back w l)) es k h
cause_stays s (Halt w j ∷ es) k h = cause_stays (then_event s (Halt w j)) es k (first_stays s.cause j k h)

claims_grow : (s : State) (es : List Event) → s.claimed ≤ (after s es).claimed
claims_grow s [] = omega arith
claims_grow s (Claim w l ∷ es) = let h = claims_grow (then_event s (Claim w l)) es in omega (arith, h)
claims_grow s (Place w l ∷ es) = claims_grow (then_event s (Place w l)) es
claims_grow s (Take w l ∷ es) = claims_grow (then_event s (Take w l)) es
claims_grow s (Back w l ∷ es) = claims_grow (then_event s (Back w l)) es
claims_grow s (Halt w k ∷ es) = claims_grow (then_event s (Halt w k)) es

takes_grow : (s : State) (es : List Event) → s.taken ≤ (after s es).taken
takes_grow s [] = omega arith
takes_grow s (Claim w l ∷ es) = takes_grow (then_event s (Claim w l)) es
takes_grow s (Place w l ∷ es) = takes_grow (then_event s (Place w l)) es
takes_grow s (Take w l ∷ es) = let h = takes_grow (then_event s (Take w l)) es in omega (arith, h)
takes_grow s (Back w l ∷ es) = takes_grow (then_event s (Back w l)) es
takes_grow s (Halt w k ∷ es) = takes_grow (then_event s (Halt w k)) es

pub front : (n m : ℕ) (xs ys es : List Event) → xs ++ ys ≡ es → IsRun n m es → IsFront n m xs es
front n m xs ys es e h =
    let split : reached es ≡ after (reached xs) ys = sym (ap reached e) ∙ after-append start xs ys in
    record {
      run = runs_front n m start xs ys (subst (RunsFrom n m start) (sym e) h);
      claimed = subst (λ (s : State). (reached xs).claimed ≤ s.claimed) (sym split) (claims_grow (reached xs) ys);
      taken = subst (λ (s : State). (reached xs).taken ≤ s.taken) (sym split) (takes_grow (reached xs) ys);
      cause = λ k is. subst (λ (s : State). s.cause ≡ Some k) (sym split) (cause_stays (reached xs) ys k is);
    }

-- ---- a worker that has halted

first_is_some : (o : Option Cause) (k : Cause) → IsSome (first_cause o k)
first_is_some None k = refl
first_is_some (Some j) k = refl

first_some : (o : Option Cause) (k : Cause) → IsSome o → IsSome (first_cause o k)
first_some o k h = first_is_some o k

abbrev LeavesCause : State → Type 0
LeavesCause s = (v : ℕ) → s.halted v ≡ true → IsSome s.cause

leaves : (s : State) (es : List Event) → LeavesCause s → LeavesCause (after s es)
leaves s [] h = h
leaves s (Claim w l ∷ es) h = leaves (then_event s (Claim w l)) es h
leaves s (Place w l ∷ es) h = leaves (then_event s (Place w l)) es h
leaves s (Take w l ∷ es) h = leaves (then_event s (Take w l)) es h
leaves s (Back w l ∷ es) h = leaves (then_event s (Back w l)) es h
leaves s (Halt w k ∷ es) h = leaves (then_event s (Halt w k)) es (λ v is. first_is_some s.cause k)

pub halted_cause : (n m v : ℕ) (es : List Event) → IsRun n m es → (stage v es).halted ≡ true → IsSome (reached es).cause
halted_cause n m v es h is = leaves start es (λ u e. absurd (cc e)) v (sym (tells n m v es h).halted ∙ is)

-- ---- takes and returns

halt_open : (h : Option ℕ) (a b : Bool) (w : ℕ) → held_by h w ≡ b → (a ≡ true → h ≡ None) → one_if (is_some (cond b None h)) + one_if (cond b true a) ≡ one_if (is_some h) + one_if a
halt_open h true true w e f = absurd (cc (sym (f refl) ∙ held_is h w e))
halt_open h false true w e f = let p : one_if (is_some h) ≡ 1 = ap (λ o. one_if (is_some o)) (held_is h w e) in omega arith
halt_open h a false w e f = refl

out_from : (n m : ℕ) (s : State) (es : List Event) → Sound n m s → RunsFrom n m s es
    → length (takes es) + one_if (is_some s.holder) + one_if s.apart ≡ length (backs es) + one_if (is_some (after s es).holder) + one_if (after s es).apart
out_from n m s [] o r = omega arith
out_from n m s (Claim w l ∷ es) o r = out_from n m (then_event s (Claim w l)) es (sound_event n m s (Claim w l) o r.0) r.1
out_from n m s (Place w l ∷ es) o r = out_from n m (then_event s (Place w l)) es (sound_event n m s (Place w l) o r.0) r.1
out_from n m s (Take w l ∷ es) o r =
    let i = out_from n m (then_event s (Take w l)) es (sound_event n m s (Take w l) o r.0) r.1 in
    let e : one_if (is_some s.holder) ≡ 0 = ap (λ h. one_if (is_some h)) r.0.2 in omega (arith, i, e)
out_from n m s (Back w l ∷ es) o r =
    let i = out_from n m (then_event s (Back w l)) es (sound_event n m s (Back w l) o r.0) r.1 in
    let e : one_if (is_some s.holder) ≡ 1 = ap (λ h. one_if (is_some h)) r.0.1 in omega (arith, i, e)
out_from n m s (Halt w k ∷ es) o r =
    let i = out_from n m (then_event s (Halt w k)) es (sound_event n m s (Halt w k) o r.0) r.1 in
    omega (arith, i, halt_open s.holder s.apart (held_by s.holder w) w refl (λ e. (o.apart e).0))

pub takes_back : (n m : ℕ) (es : List Event) → IsRun n m es → length (takes es) ≡ length (backs es) + one_if (is_some (reached es).holder) + one_if (reached es).apart
takes_back n m es h = let i = out_from n m start es (sound_start n m) h in omega (arith, i)

-- ---- a run that took all layers

claims_in_order : (n m : ℕ) (s : State) (es : List Event) → RunsFrom n m s es → CountsFrom s.claimed (claims es)
claims_in_order n m s [] h = tt
claims_in_order n m s (Claim w l ∷ es) h = (h.0.5, claims_in_order n m (then_event s (Claim w l)) es h.1)
claims_in_order n m s (Place w l ∷ es) h = claims_in_order n m (then_event s (Place w l)) es h.1
claims_in_order n m s (Take w l ∷ es) h = claims_in_order n m (then_event s (Take w l)) es h.1
claims_in_order n m s (Back w l ∷ es) h = claims_in_order n m (then_event s (Back w l)) es h.1
claims_in_order n m s (Halt w k ∷ es) h = claims_in_order n m (then_event s (Halt w k)) es h.1

claims_claimed : (s : State) (es : List Event) → length (claims es) + s.claimed ≡ (after s es).claimed
claims_claimed s [] = omega arith
claims_claimed s (Claim w l ∷ es) = let h = claims_claimed (then_event s (Claim w l)) es in omega (arith, h)
claims_claimed s (Place w l ∷ es) = claims_claimed (then_event s (Place w l)) es
claims_claimed s (Take w l ∷ es) = claims_claimed (then_event s (Take w l)) es
claims_claimed s (Back w l ∷ es) = claims_claimed (then_event s (Back w l)) es
claims_claimed s (Halt w k ∷ es) = claims_claimed (then_event s (Halt w k)) es

-- the next layer to come back has the number k
abbrev IsNext : ℕ → State → Type 0
IsNext k s = k + one_if (is_some s.holder) ≡ s.taken

no_halt : (s : State) (es : List Event) (w : ℕ) (k : Cause) → (after (then_event s (Halt w k)) es).cause ≡ None → ⊥
no_halt s es w k none = by (first_cause s.cause k) refl
  where
    some : (o : Option Cause) → IsSome o → o ≡ None → ⊥
    some None h e = absurd (cc h)
    some (Some j) h e = absurd (cc e)

    by : (o : Option Cause) → first_cause s.cause k ≡ o → ⊥
    by None e = some (first_cause s.cause k) (first_is_some s.cause k) e
    by (Some j) e = absurd (cc (sym (cause_stays (then_event s (Halt w k)) es j e) ∙ none))

backs_in_order : (n m k : ℕ) (s : State) (es : List Event) → IsNext k s → RunsFrom n m s es → (after s es).cause ≡ None → CountsFrom k (backs es)
backs_in_order n m k s [] next h calm = tt
backs_in_order n m k s (Claim w l ∷ es) next h calm = backs_in_order n m k (then_event s (Claim w l)) es next h.1 calm
backs_in_order n m k s (Place w l ∷ es) next h calm = backs_in_order n m k (then_event s (Place w l)) es next h.1 calm
backs_in_order n m k s (Take w l ∷ es) next h calm =
    let e : one_if (is_some s.holder) ≡ 0 = ap (λ o. one_if (is_some o)) h.0.2 in
    backs_in_order n m k (then_event s (Take w l)) es (omega (arith, e, next)) h.1 calm
backs_in_order n m k s (Back w l ∷ es) next h calm =
    let e : one_if (is_some s.holder) ≡ 1 = ap (λ o. one_if (is_some o)) h.0.1 in
    let is = h.0.2 in
    (omega (arith, e, next, is), backs_in_order n m (k + 1) (then_event s (Back w l)) es (omega (arith, e, next)) h.1 calm)
backs_in_order n m k s (Halt w j ∷ es) next h calm = absurd (no_halt s es w j calm)

-- how often l was placed before the state s: once where it waits in its slot or was taken
abbrev placed_before : State → ℕ → ℕ
placed_before s l = one_if (s.placed l) + one_if (nat_lt l s.taken)

lt_true : (l t : ℕ) → l < t → one_if (nat_lt l t) ≡ 1
lt_true l t h = ap one_if (by l t h)
  where
    by : (a b : ℕ) → a < b → nat_lt a b ≡ true
    by a b h = grind arith

lt_false : (l t : ℕ) → t ≤ l → one_if (nat_lt l t) ≡ 0
lt_false l t h = ap one_if (by l t h)
  where
    by : (a b : ℕ) → b ≤ a → nat_lt a b ≡ false
    by a b h = grind arith

one_more : (l x : ℕ) (xs : List ℕ) → x ≡ l → how_often l (x ∷ xs) ≡ how_often l xs + 1
one_more l x xs e = let d : one_if (x == l) ≡ 1 = ap one_if (eq-eqb x l e) in omega (arith, d)

no_more : (l x : ℕ) (xs : List ℕ) → x ≢ l → how_often l (x ∷ xs) ≡ how_often l xs
no_more l x xs ne = let d : one_if (x == l) ≡ 0 = ap one_if (ne_eqb x l ne) in omega (arith, d)

placed_from : (n m l : ℕ) (s : State) (es : List Event) → Sound n m s → RunsFrom n m s es
    → how_often l (places es) + placed_before s l ≡ placed_before (after s es) l
placed_from n m l s [] o r = omega arith
placed_from n m l s (Claim w k ∷ es) o r = placed_from n m l (then_event s (Claim w k)) es (sound_event n m s (Claim w k) o r.0) r.1
placed_from n m l s (Place w k ∷ es) o r =
    let i = placed_from n m l (then_event s (Place w k)) es (sound_event n m s (Place w k) o r.0) r.1 in
    dite (ℕ_discrete k l)
    (λ e. let q = o.work w k r.0.1 in
    let a = one_more l k (places es) e in
    let b : one_if (s.placed l) ≡ 0 = subst (λ (j : ℕ). one_if (s.placed j) ≡ 0) e (ap one_if q.3) in
    let d : one_if (put s.placed k true l) ≡ 1 = ap one_if (put-same s.placed k true l (sym e)) in
    omega (arith, i, a, b, d))
    (λ ne. let a = no_more l k (places es) ne in
    let d : one_if (put s.placed k true l) ≡ one_if (s.placed l) = ap one_if (put-other s.placed k true l (λ e. ne (sym e))) in
    omega (arith, i, a, d))
placed_from n m l s (Take w k ∷ es) o r =
    let i = placed_from n m l (then_event s (Take w k)) es (sound_event n m s (Take w k) o r.0) r.1 in
    let is : k ≡ s.taken = r.0.3 in
    dite (ℕ_discrete k l)
    (λ e. let b : one_if (s.placed l) ≡ 1 = subst (λ (j : ℕ). one_if (s.placed j) ≡ 1) e (ap one_if r.0.4) in
    let d : one_if (put s.placed k false l) ≡ 0 = ap one_if (put-same s.placed k false l (sym e)) in
    let f = lt_false l s.taken (omega (arith, e, is)) in
    let g = lt_true l (s.taken + 1) (omega (arith, e, is)) in
    omega (arith, i, b, d, f, g))
    (λ ne. let d : one_if (put s.placed k false l) ≡ one_if (s.placed l) = ap one_if (put-other s.placed k false l (λ e. ne (sym e))) in
    dite (dec_le s.taken l)
    (λ le. let f = lt_false l s.taken le in let g = lt_false l (s.taken + 1) (let x : l ≢ s.taken = λ e. ne (is ∙ sym e) in omega (arith, le, x)) in omega (arith, i, d, f, g))
    (λ gt. let f = lt_true l s.taken (omega (arith, gt)) in let g = lt_true l (s.taken + 1) (omega (arith, gt)) in omega (arith, i, d, f, g)))
placed_from n m l s (Back w k ∷ es) o r = placed_from n m l (then_event s (Back w k)) es (sound_event n m s (Back w k) o r.0) r.1
placed_from n m l s (Halt w k ∷ es) o r = placed_from n m l (then_event s (Halt w k)) es (sound_event n m s (Halt w k) o r.0) r.1

none_waits : (n m l : ℕ) (s : State) → Sound n m s → s.taken ≡ n → (b : Bool) → s.placed l ≡ b → b ≡ false
none_waits n m l s o all false e = refl
none_waits n m l s o all true e = let q = o.placed l e in let c = o.claimed in let a = q.0 in let b = q.1 in absurd (omega (arith, all, c, a, b))

pub whole : (n m : ℕ) (es : List Event) → IsRun n m es → (reached es).taken ≡ n → (reached es).holder ≡ None → (reached es).cause ≡ None → IsWhole n es
whole n m es h all free calm =
    let o = sound_after n m start es (sound_start n m) h in
    let upper = o.claimed in
    let lower = o.taken in
    let c : length (claims es) + 0 ≡ (reached es).claimed = claims_claimed start es in
    let t : length (takes es) + 0 ≡ (reached es).taken = takes_taken start es in
    let b = takes_back n m es h in
    let held : one_if (is_some (reached es).holder) ≡ 0 = ap (λ x. one_if (is_some x)) free in
    let near : one_if (reached es).apart ≡ 0 = stands (reached es).apart refl in
    record {
      claimed = (claims_in_order n m start es h, omega (arith, c, upper, lower, all));
      placed = λ l. let p = placed_from n m l start es (sound_start n m) h in
          let w : one_if ((reached es).placed l) ≡ 0 = ap one_if (none_waits n m l (reached es) o all ((reached es).placed l) refl) in
          let z : one_if (nat_lt l 0) ≡ 0 = lt_false l 0 (omega arith) in
          let q : one_if (nat_lt l (reached es).taken) ≡ one_if (nat_lt l n) = ap (λ (k : ℕ). one_if (nat_lt l k)) all in
          omega (arith, p, w, z, q);
      taken = (takes_in_order n m start es h, omega (arith, t, all));
      given_back = (backs_in_order n m 0 start es (omega arith) h calm, omega (arith, b, t, all, held, near));
    }
  where
    stands : (a : Bool) → (reached es).apart ≡ a → one_if a ≡ 0
    stands false e = refl
    stands true e = let q = (sound_after n m start es (sound_start n m) h).apart e in absurd (some (reached es).cause q.1 calm)
      where
        some : (x : Option Cause) → IsSome x → x ≡ None → ⊥
        some None h e = absurd (cc h)
        some (Some j) h e = absurd (cc e)
