use Rattle.std.proofs.Common.{◌≡◌, length}
use Rattle.chain_core.specs.Inner.Nodes.{IsHead}
use Rattle.chain_core.proofs.Ranks.{AreTold}
use Rattle.chain_core.proofs.nodes.nodes_of.Given as goal

abbrev pub invariant-loop-rank : goal.invariant-loop-rank
invariant-loop-rank l = record {
  count : length l.nodes.items ≡ length l.points;
  head : IsHead l.all.items l.head l.rank;
  told : AreTold l.points l.all.items l.nodes.items l.rank;
}
