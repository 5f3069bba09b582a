use Rattle.print_totals.proofs.Pushed.{pushed}
use Rattle.print_totals.proofs.laws.filament_is_told.Goals as goal

pub returns : goal.returns
returns c = pushed
