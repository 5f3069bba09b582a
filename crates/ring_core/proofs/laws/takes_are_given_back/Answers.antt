use Rattle.ring_core.proofs.Whole.{takes_back}
use Rattle.ring_core.proofs.laws.takes_are_given_back.Goals as goal

pub returns : goal.returns
returns c = takes_back
