use Rattle.edge_cut.proofs.WholeEdges.{told-one}
use Rattle.edge_cut.proofs.passes.add_whole.Goals as goal

pub returns-in_ok-push-2-clause-told : goal.returns-in_ok-push-2-clause-told
returns-in_ok-push-2-clause-told c all there is told =
    told-one all c.args.pieces.now.list.items c.push.new.self.items c.args.pieces.now.news.items c.push-then-pieces-le-MOST_EDGES.new.self.items c.args.m c.in_ok-push.ensures.items c.in_ok-push-2.ensures.items there is told
