use Rattle.plate_input.proofs.Once.{one_made}
use Rattle.plate_input.proofs.laws.one_made.Goals as goal

pub returns : goal.returns
returns c = one_made c.one_reading.ensures.one
