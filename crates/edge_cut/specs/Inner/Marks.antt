-- The cells of a grid that the boxes round new edges touch.
use Rattle.std.specs.Prelude.{ℕ, ◌≡◌, ◌<◌, ◌≤◌, ◌+◌, ◌*◌, ◌%◌, ◌⊎◌, Bool, true, false, List, length, slice_index_or}
use Rattle.slice_base.specs.declared.points.Edge.{Edge}
use Rattle.clip_bands.specs.Indices.{touches}
use Rattle.edge_cut.specs.declared.passes.Marked.{Marked}
use Rattle.edge_cut.specs.declared.boxes.Grid.{Grid}
use Rattle.edge_cut.specs.declared.marks.Patch.{Patch}
use Rattle.edge_cut.specs.Inner.Heights.{height_of, width_of}
use Rattle.edge_cut.specs.Inner.Indices.{nothing}
use Rattle.edge_cut.specs.Inner.Columns.{column_of}

-- the cells that the box round the edge touches: columns of the grid each way
abbrev pub patch_of : Grid → Edge → Patch
patch_of g e = record {
  left = column_of g.wide (width_of e).low;
  right = column_of g.wide (width_of e).high;
  low = column_of g.high (height_of e).low;
  high = column_of g.high (height_of e).high;
}

-- where the mark of the cell at c across and d up stands: cells 256 apart share one
abbrev pub place_of : ℕ → ℕ → ℕ
place_of c d = c % 256 * 256 + d % 256

-- what was marked still is
abbrev pub KeepsMarks : List Bool → List Bool → Type 0
KeepsMarks old new = (k : ℕ) → slice_index_or old k false ≡ true → slice_index_or new k false ≡ true

-- the marks of the cells at c across, from low to high, are b
abbrev pub RowIs : Bool → List Bool → ℕ → ℕ → ℕ → Type 0
RowIs b cells c low high = (d : ℕ) → low ≤ d → d ≤ high → slice_index_or cells (place_of c d) false ≡ b

-- the marks of all cells of the patch are b
abbrev pub PatchIs : Bool → List Bool → Patch → Type 0
PatchIs b cells p = (c : ℕ) → p.left ≤ c → c ≤ p.right → RowIs b cells c p.low p.high

-- all cells are marked that the boxes round new edges touch
abbrev pub AreMarked : Grid → List Marked → List Bool → List Bool → Type 0
AreMarked g all news cells =
    (j : ℕ) → j < length all → slice_index_or news j false ≡ true
    → PatchIs true cells (patch_of g (slice_index_or all j nothing).edge)

-- the boxes round the two edges are apart
abbrev pub AreApart : Edge → Edge → Type 0
AreApart e f = (touches (width_of e) (width_of f) ≡ false) ⊎ (touches (height_of e) (height_of f) ≡ false)

-- the edge at i isn't new, and the box round it is apart from that round each new one
pub record IsFar (all : List Marked) (news : List Bool) (i : ℕ) : Type 0 where
  pub old : slice_index_or news i false ≡ false
  pub apart : (j : ℕ) → j < length all → slice_index_or news j false ≡ true
      → AreApart (slice_index_or all i nothing).edge (slice_index_or all j nothing).edge

-- an edge that isn't told to be near a new one is far from all of them
pub record AreNear (all : List Marked) (news near : List Bool) : Type 0 where
  pub count : length near ≡ length all
  pub far : (i : ℕ) → i < length all → slice_index_or near i false ≡ false → IsFar all news i
