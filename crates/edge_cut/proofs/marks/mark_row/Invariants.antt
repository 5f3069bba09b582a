use Rattle.std.proofs.Common.{◌≡◌, ◌<◌, ◌≤◌, ℕ, true, false, length, get_or}
use Rattle.edge_cut.specs.Inner.Marks.{place_of, KeepsMarks}
use Rattle.edge_cut.proofs.marks.mark_row.Given as goal

abbrev pub invariant-loop-d : goal.invariant-loop-d
invariant-loop-d l = record {
  count : length l.cells.items ≡ 65536;
  kept : KeepsMarks l.fn.cells.items l.cells.items;
  each : (k : ℕ) → l.low ≤ k → k < l.d → get_or l.cells.items (place_of l.c k) false ≡ true;
}
