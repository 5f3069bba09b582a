use Rattle.stl_text.proofs.Outcomes.{one_reading, one_meaning}
use Rattle.stl_text.proofs.laws.one_reading.Goals as goal

pub returns-clause-one : goal.returns-clause-one
returns-clause-one c = one_meaning

pub returns-clause-facets : goal.returns-clause-facets
returns-clause-facets c = one_reading
