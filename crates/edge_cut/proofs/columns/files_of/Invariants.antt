use Rattle.std.proofs.Common.{◌≡◌, ℕ, ◌<◌, true, false, get_or}
use Rattle.std.specs.List.{All}
use Rattle.edge_cut.specs.Inner.Indices.{nothing}
use Rattle.edge_cut.specs.Inner.Columns.{extent_of, IsFileOf, IsFiled}
use Rattle.edge_cut.proofs.columns.files_of.Given as goal

abbrev pub invariant-loop-index : goal.invariant-loop-index
invariant-loop-index l = record {
  are : All (IsFileOf l.lies l.all) l.files.items;
  each : (i : ℕ) → i < l.index → get_or l.near i false ≡ true → IsFiled l.bits (extent_of l.lies i (get_or l.all i nothing).edge) l.files.items;
}
