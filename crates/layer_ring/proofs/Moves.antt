-- One event more, or none, as a seat of the lock sees it.
use Rattle.std.proofs.Common.{◌≡◌, ℕ, Option, Some, None, IsSome, IfSome, List, [], ◌∷◌, ◌++◌, refl, sym, ap, ◌∙◌, subst, inl, append_assoc}
use Rattle.std.proofs.lemmas.List.{append-nil}
use mathlib.Core.List.{IsPrefix}
use Rattle.turn_lock.specs.Events.{GrewBy}
use Rattle.ring_core.specs.declared.event.Event.{Event}
use Rattle.ring_core.specs.declared.event.Event.TheVariants.{Back, Halt}
use Rattle.ring_core.specs.declared.event.Cause.{Cause}
use Rattle.ring_core.specs.Core.{State, start, who, first_cause, then_event, after, then_stage, Stage, stage, reached}
use Rattle.ring_core.specs.Sees.{Ring, Moved}
use Rattle.layer_ring.specs.Ends.{Ended}
use Rattle.layer_ring.specs.Inner.Steps.{Worked}

pub worked_moved : {N : Type 0} (w : ℕ) (r s : Ring N) (e : Event) (at : Stage) → Moved w r s e → then_stage (stage w r.events) e ≡ at → Worked w r s at
worked_moved w r s e at m is = record {
  same = m.grew ∙ ap (λ xs. record r { events = xs }) (sym (ap (λ x. x.events) m.grew));
  grew = ((e ∷ [], sym (ap (λ x. x.events) m.grew)), m.others);
  at_is = m.stage_is ∙ is;
}

pub worked_same : {N : Type 0} (w : ℕ) (r s : Ring N) (at : Stage) → s ≡ r → stage w r.events ≡ at → Worked w r s at
worked_same w r s at same is = record {
  same = subst (λ x. x ≡ record r { events = x.events }) (sym same) refl;
  grew = subst (λ x. GrewBy who w r.events x.events) (sym same) ((([], append-nil r.events)), λ v ne. refl);
  at_is = ap (λ x. stage w x.events) same ∙ is;
}

pub moved_grew : {N : Type 0} (w : ℕ) (r s : Ring N) (e : Event) → Moved w r s e → GrewBy who w r.events s.events
moved_grew w r s e m = ((e ∷ [], sym (ap (λ x. x.events) m.grew)), m.others)

after-append : (s : State) (xs : List Event) (e : Event) → after s (xs ++ e ∷ []) ≡ then_event (after s xs) e
after-append s [] e = refl
after-append s (x ∷ xs) e = after-append (then_event s x) xs e

pub reached_moved : {N : Type 0} (w : ℕ) (r s : Ring N) (e : Event) → Moved w r s e → reached s.events ≡ then_event (reached r.events) e
reached_moved w r s e m = ap (λ x. reached x.events) m.grew ∙ after-append start r.events e

first_is_some : (o : Option Cause) (k : Cause) → IsSome (first_cause o k)
first_is_some None k = refl
first_is_some (Some j) k = refl

-- a worker that halts has ended
pub halted_over : {N : Type 0} (n w : ℕ) (r s : Ring N) (k : Cause) → Moved w r s (Halt w k) → Ended n w s.events
halted_over n w r s k m = record {
  turn = ap (λ (x : Stage). x.turn) m.stage_is;
  work = λ e. absurd (cc (e, ap (λ (x : Stage). x.halted) m.stage_is));
  halted = λ e. subst IsSome (sym (ap (λ (x : State). x.cause) (reached_moved w r s (Halt w k) m))) (first_is_some (reached r.events).cause k);
  over = inl (subst IsSome (sym (ap (λ (x : State). x.cause) (reached_moved w r s (Halt w k) m))) (first_is_some (reached r.events).cause k));
}

-- what comes back for the layer of the turn, where that layer is known
pub given_back : {N : Type 0} (w : ℕ) (r s : Ring N) (o : Option ℕ) (l : ℕ) → IfSome o (λ i. Moved w r s (Back w i)) → o ≡ Some l → Moved w r s (Back w l)
given_back w r s o l h is = subst (λ p. IfSome p (λ i. Moved w r s (Back w i))) is h

pub prefix_refl : (xs : List Event) → IsPrefix xs xs
prefix_refl xs = ([], append-nil xs)

pub prefix_trans : (xs ys zs : List Event) → IsPrefix xs ys → IsPrefix ys zs → IsPrefix xs zs
prefix_trans xs ys zs p q = (p.0 ++ q.0, sym (append_assoc xs p.0 q.0) ∙ (ap (λ l. l ++ q.0) p.1 ∙ q.1))

-- what a seat had seen begins what it has seen once it gave the ring back
pub seen_later : {N : Type 0} (w : ℕ) (r s : Ring N) (xs ys : List Event) → IsPrefix xs r.events → GrewBy who w r.events s.events → ys ≡ s.events → IsPrefix xs ys
seen_later w r s xs ys p g is = subst (IsPrefix xs) (sym is) (prefix_trans xs r.events s.events p g.0)
