use Rattle.std.proofs.Common.{◌≡◌, ◌<◌, ◌≤◌, ℕ, false, get_or}
use Rattle.edge_cut.specs.Inner.Marks.{place_of}
use Rattle.edge_cut.proofs.marks.has_row_mark.Given as goal

abbrev pub invariant-loop-d : goal.invariant-loop-d
invariant-loop-d l = (k : ℕ) → l.low ≤ k → k < l.d → get_or l.cells (place_of l.c k) false ≡ false
