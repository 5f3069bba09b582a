use Rattle.edge_cut.proofs.BothEdges.{crossing-lies}
use Rattle.edge_cut.proofs.laws.crossing_lies_on_both.Goals as goal

pub returns : goal.returns
returns c = crossing-lies c.args.e c.args.f c.requires.across c.requires.met
