use Rattle.print_totals.proofs.Told.{told}
use Rattle.print_totals.proofs.laws.times_are_told.Goals as goal

pub returns : goal.returns
returns c = told
