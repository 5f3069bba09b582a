use Rattle.std.proofs.Common.{ℕ, ◌≡◌, ◌<◌, ◌++◌, drop}
use Rattle.chain_core.specs.Inner.Nodes.{IsKeyable, point_at, keyed_from}
use Rattle.chain_core.proofs.nodes.with_keys.Given as goal

abbrev pub invariant-loop-index : goal.invariant-loop-index
invariant-loop-index l = record {
  so_far : l.all.items ++ keyed_from l.index (drop l.index l.points) ≡ keyed_from 0 l.points;
  keyable : (k : ℕ) → k < l.index → IsKeyable (point_at l.points k);
}
