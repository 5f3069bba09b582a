use Rattle.edge_cut.proofs.BothEdges.{crossing-exchanged}
use Rattle.edge_cut.proofs.laws.crossing_is_exchanged.Goals as goal

pub returns : goal.returns
returns c = crossing-exchanged c.args.e c.args.f c.requires
