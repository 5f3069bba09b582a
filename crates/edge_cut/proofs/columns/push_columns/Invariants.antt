use Rattle.std.proofs.Common.{ℕ, ◌<◌, ◌≤◌, Bool, List}
use Rattle.std.specs.List.{All, Contains}
use Rattle.edge_cut.specs.declared.passes.Marked.{Marked}
use Rattle.edge_cut.specs.Inner.Columns.{filed_at, IsExtentOf, IsFileOf, KeepsFiles}
use Rattle.edge_cut.proofs.columns.push_columns.Given as goal

abbrev pub invariant-loop-column : goal.invariant-loop-column
invariant-loop-column l = record {
  kept : KeepsFiles l.fn.files.items l.files.items;
  are : (lies : Bool) → (all : List Marked) → IsExtentOf lies all l.extent → All (IsFileOf lies all) l.fn.files.items → All (IsFileOf lies all) l.files.items;
  each : (c : ℕ) → l.first ≤ c → c < l.column → Contains l.files.items (filed_at c l.extent);
}
