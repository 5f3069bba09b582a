-- Squares of the plane, and what was found in them.
use Rattle.std.specs.Prelude.{ℕ, ◌^◌, ◌≡◌, ◌+◌, ◌*◌, ◌/◌, ◌%◌, ◌<◌, ◌≤◌, ℤ, pos, ◌+ℤ◌, Bool, true, false, nat_le, ◌⊎◌, List, [], length, Option, Some, None, slice_index_or, unsigned_abs}
use Rattle.std.specs.List.{All, Contains}
use Rattle.slice_base.specs.declared.points.Pt.{Pt}
use Rattle.path_order.specs.declared.starts.Start.{Start}
use Rattle.path_order.specs.declared.choices.Choice.{Choice}
use Rattle.path_order.specs.declared.grid.Grid.{Grid}
use Rattle.path_order.specs.Inner.Remaining.{no_start, is_gone}
use Rattle.path_order.specs.Order.{choice_from, is_before}

-- a coordinate, counted from the least that 32 bits can hold
abbrev pub lifted : ℤ → ℕ
lifted x = unsigned_abs (x +ℤ pos 2147483648)

-- the strip of this width in which a coordinate lies
abbrev pub strip_of : ℕ → ℤ → ℕ
strip_of side x = lifted x / side

-- the number of the square where a column and a row cross, among so many
abbrev pub square_of_strips : ℕ → ℕ → ℕ → ℕ
square_of_strips count column row = (row * 1640531527 + column) % count

-- the number of the square in which a point lies
abbrev pub square_at : ℕ → ℕ → Pt → ℕ
square_at count side p = square_of_strips count (strip_of side p.x) (strip_of side p.y)

-- start k of these
abbrev pub start_of : List Start → ℕ → Start
start_of starts k = slice_index_or starts k no_start

-- the column, and the row, of squares of this side in which a point lies
abbrev pub column_of : ℕ → Pt → ℕ
column_of side p = strip_of side p.x

abbrev pub row_of : ℕ → Pt → ℕ
row_of side p = strip_of side p.y

-- the first n starts are filed, each in its square, and all that is filed are starts
pub record AreFiled (starts : List Start) (side : ℕ) (squares : List (List ℕ)) (n : ℕ) : Type 0 where
  pub known : (b : ℕ) → All (λ k. k < length starts) (slice_index_or squares b [])
  pub filed : (k : ℕ) → k < n →
      Contains (slice_index_or squares (square_at (length squares) side (start_of starts k).at) []) k

-- all starts of the grid are filed
pub record IsGrid (g : Grid) : Type 0 where
  pub some : 0 < length g.squares.items
  pub some_side : 0 < g.side
  pub not_wide : g.side < 2 ^ 33
  pub filed : AreFiled g.starts.items g.side g.squares.items (length g.starts.items)

-- what was found is one of the starts, of a piece that isn't gone
abbrev pub IsFound : List Bool → Pt → List Start → Option Choice → Type 0
IsFound gone at starts None = Unit {0}
IsFound gone at starts (Some c) =
    (k : ℕ) × (k < length starts) × (is_gone gone (start_of starts k).piece ≡ false)
    × (c ≡ choice_from at (start_of starts k))

-- something was found, and the start doesn't come before it
abbrev pub Precedes : Pt → Option Choice → Start → Type 0
Precedes at None s = ⊥
Precedes at (Some c) s = is_before (choice_from at s) c ≡ false

-- the start is of a piece that is gone, or doesn't come before what was found
abbrev pub Beats : List Bool → Pt → Option Choice → Start → Type 0
Beats gone at best s = (is_gone gone s.piece ≡ true) ⊎ Precedes at best s

-- no more strips apart than this, along both axes
pub record IsNear (side reach : ℕ) (p q : Pt) : Type 0 where
  pub left : strip_of side p.x ≤ strip_of side q.x + reach
  pub right : strip_of side q.x ≤ strip_of side p.x + reach
  pub front : strip_of side p.y ≤ strip_of side q.y + reach
  pub back : strip_of side q.y ≤ strip_of side p.y + reach

-- something was found, no further away than this
abbrev pub is_close : Option Choice → ℕ → Bool
is_close None far = false
is_close (Some c) far = nat_le c.square (far * far)

-- what was found beats all starts that lie in these columns of this row
abbrev pub BeatsRow : List Bool → Pt → Option Choice → Grid → ℕ → ℕ → ℕ → Type 0
BeatsRow gone at best g row from to =
    (k : ℕ) → k < length g.starts.items → row_of g.side (start_of g.starts.items k).at ≡ row →
    from ≤ column_of g.side (start_of g.starts.items k).at → column_of g.side (start_of g.starts.items k).at ≤ to →
    Beats gone at best (start_of g.starts.items k)

-- what was found beats all starts that lie near a point
abbrev pub BeatsNear : List Bool → Pt → Option Choice → Grid → ℕ → Type 0
BeatsNear gone at best g reach =
    (k : ℕ) → k < length g.starts.items → IsNear g.side reach at (start_of g.starts.items k).at →
    Beats gone at best (start_of g.starts.items k)
