use Rattle.std.proofs.Common.{◌≡◌, ◌<◌, Some, sym, ap, ◌∙◌, subst}
use Rattle.ring_core.specs.declared.ring.RingName.{RingName}
use Rattle.layer_ring.specs.Inner.Seats.{SawEnd}
use Rattle.layer_ring.proofs.Giving.{named}
use Rattle.layer_ring.proofs.run.run_ring.Goals as goal

named_same : {N : Type 0} (n m : RingName N) → Some n ≡ Some m → (m.layers ≡ n.layers) × (m.workers ≡ n.workers)
named_same n m e = (cc e, cc e)

pub finish-requires-clause-ended : goal.finish-requires-clause-ended
finish-requires-clause-ended g c κs within = λ v lt.
    let e = named_same (record { planner = g.P.Planner.name c.args.planner; layers = c.args.layers; workers = c.args.workers; faults = g.C.Consumer.fault_count c.args.consumer }) (record { planner = c.run-ring.result.planner; layers = c.run-ring.result.layers; workers = c.run-ring.result.workers; faults = c.run-ring.result.faults }) (sym (ap (λ r. Some (named r)) c.in-Ok-make.ensures.ok) ∙ (sym (ap (λ s. s.name) c.in-Ok-make-2.ensures.ok.1) ∙ c.run-ring.ensures.name)) in
    subst (λ l. SawEnd l v c.run-ring.result.events) (sym e.0) (c.run-ring.ensures.ended v (subst (λ w. v < w) e.1 lt))
