use Rattle.edge_cut.proofs.Enough.{whole-meets}
use Rattle.edge_cut.proofs.laws.whole_edges_meet_at_ends.Goals as goal

pub returns : goal.returns
returns c = whole-meets c.args.e c.args.all.now c.args.other c.requires.listed c.requires.whole
