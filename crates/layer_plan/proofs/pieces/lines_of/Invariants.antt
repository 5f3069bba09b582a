use Rattle.std.proofs.Common.{◌≡◌, ◌++◌, drop}
use Rattle.layer_plan.specs.Pieces.{lines_of}
use Rattle.layer_plan.proofs.pieces.lines_of.Given as goal

abbrev pub invariant-loop-e : goal.invariant-loop-e
invariant-loop-e l = l.pieces ++ lines_of (drop l.e-index l.edges) ≡ lines_of l.edges
