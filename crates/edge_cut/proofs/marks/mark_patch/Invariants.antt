use Rattle.std.proofs.Common.{◌≡◌, ◌<◌, ◌≤◌, ℕ, true, length}
use Rattle.edge_cut.specs.Inner.Marks.{KeepsMarks, RowIs}
use Rattle.edge_cut.proofs.marks.mark_patch.Given as goal

abbrev pub invariant-loop-c : goal.invariant-loop-c
invariant-loop-c l = record {
  count : length l.cells.items ≡ 65536;
  kept : KeepsMarks l.fn.cells.items l.cells.items;
  each : (k : ℕ) → l.patch.left ≤ k → k < l.c → RowIs true l.cells.items k l.patch.low l.patch.high;
}
