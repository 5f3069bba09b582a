use Rattle.std.proofs.Common.{◌∙◌}
use Rattle.edge_cut.proofs.BySides.{on-by, across-by, whole-by, some-by, met-by, met-back}
use Rattle.edge_cut.proofs.sides.meeting_of.Goals as goal

pub crossing-requires-clause-on : goal.crossing-requires-clause-on
crossing-requires-clause-on c = c.parts_of.ensures.on ∙ on-by c.args.e c.args.f c.args.t c.requires.second

pub crossing-requires-clause-across : goal.crossing-requires-clause-across
crossing-requires-clause-across c = c.parts_of.ensures.across ∙ across-by c.args.e c.args.f c.args.s c.requires.first

pub crossing-requires-clause-whole : goal.crossing-requires-clause-whole
crossing-requires-clause-whole c = c.parts_of.ensures.whole ∙ whole-by c.args.e c.args.f c.args.t c.requires.second

pub crossing-requires-clause-other : goal.crossing-requires-clause-other
crossing-requires-clause-other c =
    some-by c.args.e c.args.f c.args.s c.parts_of.result.whole c.requires.first c.requires.other (c.parts_of.ensures.whole ∙ whole-by c.args.e c.args.f c.args.t c.requires.second)

pub returns-clause-forth : goal.returns-clause-forth
returns-clause-forth c = met-by c.args.e c.args.f c.args.s _ c.requires.first c.requires.other c.crossing.ensures

pub returns-clause-back : goal.returns-clause-back
returns-clause-back c = met-back c.args.e c.args.f c.args.s _ c.requires.first c.requires.other c.crossing.ensures
