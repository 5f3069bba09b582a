use Rattle.plate_input.proofs.Once.{one_plate}
use Rattle.plate_input.proofs.laws.one_plate.Goals as goal

pub returns : goal.returns
returns c = one_plate c.one_reading.ensures.one
