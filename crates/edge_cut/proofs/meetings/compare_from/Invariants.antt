use Rattle.std.proofs.Common.{◌<◌, ◌≤◌, ◌-◌, length}
use Rattle.edge_cut.specs.Inner.Meetings.{Keeps, AreMeetings, ComparedUpTo}
use Rattle.edge_cut.proofs.meetings.compare_from.Given as goal

abbrev pub invariant-walk : goal.invariant-walk
invariant-walk l = record {
  behind : l.r < l.s;
  within : l.s ≤ length l.files;
  kept : Keeps l.fn.meetings.items l.meetings.items;
  are : AreMeetings l.all l.fn.meetings.items → AreMeetings l.all l.meetings.items;
  so_far : ComparedUpTo l.all l.meetings.items l.files l.r l.s;
}

abbrev pub decreases-walk : goal.decreases-walk
decreases-walk l = length l.files - l.s
