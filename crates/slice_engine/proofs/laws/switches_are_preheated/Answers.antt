use Rattle.slice_engine.proofs.Switching.{switches_heated}
use Rattle.slice_engine.proofs.laws.switches_are_preheated.Goals as goal

pub returns : goal.returns
returns c = switches_heated
