use Rattle.std.proofs.Common.{arith}
use Rattle.edge_cut.proofs.Cells.{marked-more}
use Rattle.edge_cut.proofs.marks.marks_of.Goals as goal

pub loop-index-preserved : goal.loop-index-preserved
loop-index-preserved c = record {
  count = c.mark_new.ensures.count;
  each = marked-more c.args.grid c.args.all.now c.args.news.now c.loop-index.cells.items c.mark_new.new.cells.items c.loop-index.index c.mark_new.ensures.kept c.loop-index.invariant.each c.mark_new.ensures.each;
}

pub returns-clause-each : goal.returns-clause-each
returns-clause-each c = λ j below. c.loop-index.invariant.each j (omega (arith, below, c.loop-index-test.false))
