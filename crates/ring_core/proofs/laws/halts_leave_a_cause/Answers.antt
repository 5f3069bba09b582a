use Rattle.ring_core.proofs.Whole.{halted_cause}
use Rattle.ring_core.proofs.laws.halts_leave_a_cause.Goals as goal

pub returns : goal.returns
returns c = halted_cause
