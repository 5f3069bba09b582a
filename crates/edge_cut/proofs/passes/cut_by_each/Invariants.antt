use Rattle.std.proofs.Common.{◌≤◌, ◌*◌, drop}
use Rattle.edge_cut.specs.Cut.{cut_by, pass_of}
use Rattle.edge_cut.specs.Inner.News.{AreTold}
use Rattle.edge_cut.proofs.Counts.{SoFar}
use Rattle.edge_cut.proofs.passes.cut_by_each.Given as goal

abbrev pub invariant-loop-m : goal.invariant-loop-m
invariant-loop-m l = record {
  small : l.pieces.count ≤ l.m-index * 200002;
  so_far : SoFar l.pieces (cut_by l.all (drop l.m-index l.all)) (pass_of l.all);
  told : AreTold l.all l.pieces.list.items l.pieces.news.items;
}
