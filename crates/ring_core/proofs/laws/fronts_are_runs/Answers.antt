use Rattle.ring_core.proofs.Whole.{front}
use Rattle.ring_core.proofs.laws.fronts_are_runs.Goals as goal

pub returns : goal.returns
returns c = front
