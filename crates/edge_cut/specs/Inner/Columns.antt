-- The boxes round edges, filed in the columns that they touch.
use Rattle.std.specs.Prelude.{ℕ, ℤ, pos, ◌≡◌, ◌<◌, ◌≤◌, ◌+◌, ◌*◌, ◌/◌, ◌^◌, ◌%◌, ◌+ℤ◌, int_le, Bool, true, false, cond, List, length, slice_index_or}
use Rattle.std.specs.List.{All, Contains}
use Rattle.std.specs.Int.RustNames.{unsigned_abs}
use Rattle.slice_base.specs.declared.points.Edge.{Edge}
use Rattle.edge_cut.specs.declared.passes.Marked.{Marked}
use Rattle.edge_cut.specs.declared.columns.Extent.{Extent}
use Rattle.edge_cut.specs.declared.columns.Filed.{Filed}
use Rattle.edge_cut.specs.Inner.Heights.{height_of, width_of}
use Rattle.edge_cut.specs.Inner.Indices.{nothing}

-- the box round the edge at i, taken along x where it lies, else along y
abbrev pub extent_of : Bool → ℕ → Edge → Extent
extent_of lies i e = record {
  along = cond lies (width_of e) (height_of e);
  across = cond lies (height_of e) (width_of e);
  index = i;
}

-- how far the coordinate stands above the least one
abbrev pub above_least : ℤ → ℕ
above_least x = cond (int_le (pos 0) (x +ℤ pos 2147483648)) (unsigned_abs (x +ℤ pos 2147483648)) 0

-- the column that holds the coordinate: the first one begins at the least, and each is two to this power wide
abbrev pub column_of : ℕ → ℤ → ℕ
column_of bits x = above_least x / 2 ^ (bits % 64)

-- the first column that the box touches
abbrev pub first_column_of : ℕ → Extent → ℕ
first_column_of bits x = column_of bits x.across.low

-- the last one
abbrev pub last_column_of : ℕ → Extent → ℕ
last_column_of bits x = column_of bits x.across.high

-- orders by columns, and in one by coordinates
abbrev pub key_of : ℕ → ℤ → ℕ
key_of column x = column * 4294967296 + above_least x

-- the box in that column
abbrev pub filed_at : ℕ → Extent → Filed
filed_at column x = record { key = key_of column x.along.low; column = column; extent = x }

-- what an index past the end would read
abbrev pub no_file : Filed
no_file = record {
  key = 0;
  column = 0;
  extent = record {
    along = record { low = pos 0; high = pos 0 };
    across = record { low = pos 0; high = pos 0 };
    index = 0;
  };
}

-- the greatest key of a box in the same column that begins up to this one's high end
abbrev pub limit_of : Filed → ℕ
limit_of f = key_of f.column f.extent.along.high

-- the boxes stand by their keys
abbrev pub AreRising : List Filed → Type 0
AreRising fs = (i j : ℕ) (d : Filed) → i ≤ j → j < length fs → (slice_index_or fs i d).key ≤ (slice_index_or fs j d).key

-- the box is that of the edge at its index
pub record IsExtentOf (lies : Bool) (all : List Marked) (a : Extent) : Type 0 where
  pub within : a.index < length all
  pub is : a ≡ extent_of lies a.index (slice_index_or all a.index nothing).edge

-- a box of an edge in some column
pub record IsFileOf (lies : Bool) (all : List Marked) (f : Filed) : Type 0 where
  pub extent : IsExtentOf lies all f.extent
  pub is : f ≡ filed_at f.column f.extent

-- what was filed still is
abbrev pub KeepsFiles : List Filed → List Filed → Type 0
KeepsFiles old new = (f : Filed) → Contains old f → Contains new f

-- the box is filed in each column that it touches
abbrev pub IsFiled : ℕ → Extent → List Filed → Type 0
IsFiled bits x files =
    (c : ℕ) → column_of bits x.across.low ≤ c → c ≤ column_of bits x.across.high → Contains files (filed_at c x)

-- each edge that is told to be near a new one is filed in each column that its box touches
pub record AreFiled (lies : Bool) (bits : ℕ) (all : List Marked) (near : List Bool) (files : List Filed) : Type 0 where
  pub are : All (IsFileOf lies all) files
  pub each : (i : ℕ) → i < length all → slice_index_or near i false ≡ true
      → IsFiled bits (extent_of lies i (slice_index_or all i nothing).edge) files
