use Rattle.std.proofs.Common.{ap}
use Rattle.ring_core.specs.declared.event.Cause.TheVariants.{Write}
use Rattle.layer_ring.proofs.Giving.{halted_seat}
use Rattle.layer_ring.proofs.turns.halt_write.Goals as goal

pub returns-clause-ended : goal.returns-clause-ended
returns-clause-ended g c =
    halted_seat c.args.seat.now.name c.worker-worker.result c.args.seat.now.number c.take-ring.result c.halt.new.self (Write c.faults-faults.result) c.give.new.seat.seen c.take-ring.ensures.name c.worker-worker.ensures.number (ap (λ s. s.seen) c.give.ensures) c.halt.ensures
