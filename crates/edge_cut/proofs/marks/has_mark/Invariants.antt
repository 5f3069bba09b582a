use Rattle.std.proofs.Common.{◌<◌, ◌≤◌, ℕ, false}
use Rattle.edge_cut.specs.Inner.Marks.{RowIs}
use Rattle.edge_cut.proofs.marks.has_mark.Given as goal

abbrev pub invariant-loop-c : goal.invariant-loop-c
invariant-loop-c l = (k : ℕ) → l.patch.left ≤ k → k < l.c → RowIs false l.cells k l.patch.low l.patch.high
