use Rattle.std.proofs.Common.{◌≡◌, ◌<◌, ℕ, true, false, length, get_or}
use Rattle.edge_cut.specs.Inner.Indices.{nothing}
use Rattle.edge_cut.specs.Inner.Marks.{patch_of, PatchIs}
use Rattle.edge_cut.proofs.marks.marks_of.Given as goal

abbrev pub invariant-loop-index : goal.invariant-loop-index
invariant-loop-index l = record {
  count : length l.cells.items ≡ 65536;
  each : (j : ℕ) → j < l.index → get_or l.news j false ≡ true → PatchIs true l.cells.items (patch_of l.grid (get_or l.all j nothing).edge);
}
