use Rattle.edge_cut.proofs.BothEdges.{shared-lies}
use Rattle.edge_cut.proofs.laws.shared_ends_lie_on_both.Goals as goal

pub returns-clause-first : goal.returns-clause-first
returns-clause-first c p h = (shared-lies c.args.e c.args.f c.requires p h).0

pub returns-clause-second : goal.returns-clause-second
returns-clause-second c p h = (shared-lies c.args.e c.args.f c.requires p h).1
