-- A ring that a seat gives back.
use Rattle.std.proofs.Common.{◌≡◌, ℕ, Option, Some, IsSomeAnd, List, sym, ap, ◌∙◌, subst}
use Rattle.turn_lock.specs.Events.{GrewBy}
use Rattle.ring_core.specs.declared.event.Event.{Event}
use Rattle.ring_core.specs.declared.ring.RingName.{RingName}
use Rattle.ring_core.specs.Core.{who, Stage}
use Rattle.ring_core.specs.Sees.{Ring}
use Rattle.ring_core.specs.declared.event.Event.TheVariants.{Halt}
use Rattle.ring_core.specs.declared.event.Cause.{Cause}
use Rattle.ring_core.specs.Sees.{Moved}
use Rattle.layer_ring.specs.Ends.{Ended}
use Rattle.layer_ring.specs.Inner.Steps.{Worked}
use Rattle.layer_ring.proofs.Moves.{halted_over}

-- the name of a ring
abbrev pub named : {N : Type 0} → Ring N → RingName N
named r = record { planner = r.planner; layers = r.layers; workers = r.workers; faults = r.faults }

pub keeps_name : {N : Type 0} (w : ℕ) (r s : Ring N) (at : Stage) (n : Option (RingName N)) → Worked w r s at → n ≡ Some (named r) → n ≡ Some (named s)
keeps_name w r s at n h is = is ∙ ap (λ x. Some (record { planner = x.planner; layers = x.layers; workers = x.workers; faults = x.faults })) (sym h.same)

pub gives : {N : Type 0} (w : ℕ) (r s : Ring N) (at : Stage) → Worked w r s at → GrewBy who w r.events s.events
gives w r s at h = h.grew

-- the seat of a worker that halted
pub halted_seat : {N : Type 0} (name : Option (RingName N)) (w number : ℕ) (r s : Ring N) (k : Cause) (es : List Event) → name ≡ Some (named r) → w ≡ number → es ≡ s.events → Moved w r s (Halt w k) → IsSomeAnd name (λ n. Ended n.layers number es)
halted_seat name w number r s k es is same seen m =
    subst (λ o. IsSomeAnd o (λ n. Ended n.layers number es)) (sym is) (subst (λ i. Ended r.layers i es) same (subst (Ended r.layers w) (sym seen) (halted_over r.layers w r s k m)))
