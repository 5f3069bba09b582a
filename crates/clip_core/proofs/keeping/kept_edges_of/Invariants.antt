use Rattle.std.proofs.Common.{◌≡◌, ◌++◌, drop}
use Rattle.clip_core.specs.Keeping.{kept_edges_of}
use Rattle.clip_core.proofs.keeping.kept_edges_of.Given as goal

abbrev pub invariant-loop-slot : goal.invariant-loop-slot
invariant-loop-slot l = l.edges.items ++ kept_edges_of l.fn.operation l.all (drop l.slot-index l.bundles) ≡ kept_edges_of l.fn.operation l.all l.bundles
