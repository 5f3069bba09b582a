use Rattle.std.proofs.Common.{◌≡◌, ◌<◌, ℕ, false, length, get_or}
use Rattle.edge_cut.specs.Inner.Marks.{IsFar}
use Rattle.edge_cut.proofs.marks.near_by.Given as goal

abbrev pub invariant-loop-index : goal.invariant-loop-index
invariant-loop-index l = record {
  count : length l.near.items ≡ l.index;
  far : (i : ℕ) → i < l.index → get_or l.near.items i false ≡ false → IsFar l.all l.news i;
}
