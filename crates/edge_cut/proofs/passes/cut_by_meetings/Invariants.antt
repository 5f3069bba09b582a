use Rattle.std.proofs.Common.{◌≤◌, ◌+◌, ◌*◌, drop, length}
use Rattle.edge_cut.specs.Cut.{cut_by, pass_of}
use Rattle.edge_cut.specs.Inner.Meetings.{IndexFrom}
use Rattle.edge_cut.specs.Inner.News.{AreTold}
use Rattle.edge_cut.proofs.Counts.{SoFar}
use Rattle.edge_cut.proofs.passes.cut_by_meetings.Given as goal

abbrev pub invariant-loop-index : goal.invariant-loop-index
invariant-loop-index l = record {
  within : l.done ≤ length l.meetings;
  grouped : IndexFrom l.meetings l.done l.index;
  small : l.pieces.count ≤ l.done + 2 * l.index;
  so_far : SoFar l.pieces (cut_by l.all (drop l.index l.all)) (pass_of l.all);
  told : AreTold l.all l.pieces.list.items l.pieces.news.items;
}
