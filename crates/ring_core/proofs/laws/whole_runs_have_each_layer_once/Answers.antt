use Rattle.ring_core.proofs.Whole.{whole}
use Rattle.ring_core.proofs.laws.whole_runs_have_each_layer_once.Goals as goal

pub returns : goal.returns
returns c = whole
