use Rattle.edge_cut.specs.Inner.Meetings.{AreMeetings, ComparedBelow}
use Rattle.edge_cut.proofs.meetings.meetings_of.Given as goal

abbrev pub invariant-loop-r : goal.invariant-loop-r
invariant-loop-r l = record {
  are : AreMeetings l.all l.meetings.items;
  so_far : ComparedBelow l.all l.meetings.items l.files l.r;
}
