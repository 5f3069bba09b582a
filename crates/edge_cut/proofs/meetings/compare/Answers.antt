use Rattle.edge_cut.proofs.Compared.{across-compared, across-not}
use Rattle.edge_cut.proofs.Listed.{compares-none}
use Rattle.edge_cut.proofs.Told.{old-compared}
use Rattle.edge_cut.proofs.meetings.compare.Goals as goal

pub returns-then-are_apart : goal.returns-then-are_apart
returns-then-are_apart c =
    compares-none c.args.all.now c.args.a.index c.args.b.index c.args.meetings.now.items
    (across-compared c.args.lies c.args.all.now c.args.meetings.now.items c.args.a c.args.b c.requires.a_is c.requires.b_is
    (across-not c.args.a.across c.args.b.across c.are_apart.result c.are_apart.ensures c.if-are_apart.true))

pub returns-then-are_old : goal.returns-then-are_old
returns-then-are_old c =
    compares-none c.args.all.now c.args.a.index c.args.b.index c.args.meetings.now.items
    (old-compared c.args.lies c.args.all.now c.args.news.now c.args.meetings.now.items c.args.a c.args.b c.are_old.result c.requires.settled c.requires.a_is c.requires.b_is c.are_old.ensures c.if-are_old.true)
