use Rattle.std.proofs.Common.{List, sym, subst, arith}
use Rattle.edge_cut.specs.declared.meetings.Meeting.{Meeting}
use Rattle.edge_cut.specs.Inner.Meetings.{AreMeetings}
use Rattle.edge_cut.proofs.Compared.{more-below, all-below}
use Rattle.edge_cut.proofs.Listed.{none-are}
use Rattle.edge_cut.proofs.meetings.meetings_of.Goals as goal

pub loop-r-init : goal.loop-r-init
loop-r-init c = record {
  are = subst (λ (ms : List Meeting). AreMeetings c.args.all.now ms) (sym c.in_ok-meetings.ensures) (none-are c.args.all.now);
  so_far = λ q lt. absurd (omega (arith, lt));
}

pub loop-r-preserved : goal.loop-r-preserved
loop-r-preserved c = record {
  are = c.in_ok-compare_from.ensures.are c.loop-r.invariant.are;
  so_far = more-below c.args.all.now c.loop-r.meetings.items c.compare_from.new.meetings.items c.args.files.now c.loop-r.r c.in_ok-compare_from.ensures.kept c.loop-r.invariant.so_far c.in_ok-compare_from.ensures.compared;
}

pub returns-clause-compared : goal.returns-clause-compared
returns-clause-compared c = all-below c.args.all.now c.loop-r.meetings.items c.args.files.now c.loop-r.r c.loop-r-test.false c.loop-r.invariant.so_far
