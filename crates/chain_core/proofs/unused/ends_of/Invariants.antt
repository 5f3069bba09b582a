use Rattle.std.proofs.Common.{◌≡◌, ◌++◌, drop}
use Rattle.chain_core.specs.Ends.{ends_of}
use Rattle.chain_core.proofs.unused.ends_of.Given as goal

abbrev pub invariant-loop-e : goal.invariant-loop-e
invariant-loop-e l = l.ends.items ++ ends_of (drop l.e-index l.edges) ≡ ends_of l.edges
