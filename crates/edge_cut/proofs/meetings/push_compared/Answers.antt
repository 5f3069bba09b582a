use Rattle.edge_cut.proofs.Listed.{compares-none, compared-ends}
use Rattle.edge_cut.proofs.meetings.push_compared.Goals as goal

pub returns-then-both_at_ends : goal.returns-then-both_at_ends
returns-then-both_at_ends c =
    compares-none c.args.all.now c.args.i c.args.j c.args.meetings.now.items
    (compared-ends c.args.all.now c.args.i c.args.j c.args.meetings.now.items (c.both_at_ends.ensures.forth c.if-both_at_ends.true) (c.both_at_ends.ensures.back c.if-both_at_ends.true))
