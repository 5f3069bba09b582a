use Rattle.outside.proofs.Writes.{pen_laws}
use Rattle.outside.proofs.pens.pens_add_up.Goals as goal

pub returns : goal.returns
returns g c = pen_laws g.S.Sink.output
