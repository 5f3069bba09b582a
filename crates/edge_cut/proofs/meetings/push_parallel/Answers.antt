use Rattle.edge_cut.proofs.BySides.{level-back}
use Rattle.edge_cut.proofs.Listed.{both-listed}
use Rattle.edge_cut.proofs.meetings.push_parallel.Goals as goal

pub push_shared-requires-2-clause-level : goal.push_shared-requires-2-clause-level
push_shared-requires-2-clause-level c = level-back c.args.a.edge c.args.b.edge c.args.sides c.sides_of.result c.requires.are c.sides_of.ensures c.requires.level

pub returns : goal.returns
returns c =
    both-listed c.args.a.edge c.args.b.edge c.args.a.index c.args.b.index c.args.meetings.now.items c.push_shared.new.meetings.items c.push_shared-2.new.meetings.items c.in_ok-push_shared.ensures c.in_ok-push_shared-2.ensures
