-- Points by numbers, one for those that are equal.
use Rattle.std.specs.Prelude.{ℕ, ℤ, suc, pos, ◌≡◌, ◌+◌, ◌*◌, ◌<◌, ◌≤◌, ◌+ℤ◌, ◌≤ℤ◌, int_le, cond, List, [], ◌∷◌, length, slice_index_or}
use Rattle.std.specs.Int.RustNames.{unsigned_abs}
use Rattle.slice_base.specs.declared.points.Pt.{Pt}
use Rattle.slice_base.specs.Shapes.{Points}
use Rattle.chain_core.specs.declared.nodes.Keyed.{Keyed}

-- how far the coordinate stands above the least one
abbrev pub above_least : ℤ → ℕ
above_least x = cond (int_le (pos 0) (x +ℤ pos 2147483648)) (unsigned_abs (x +ℤ pos 2147483648)) 0

-- both coordinates in one number
abbrev pub key_of : Pt → ℕ
key_of p = above_least p.y * 4294967296 + above_least p.x

-- the coordinates have 32 bits, so that the key tells them
pub record IsKeyable (p : Pt) : Type 0 where
  pub x_low : pos 0 ≤ℤ (p.x +ℤ pos 2147483648)
  pub y_low : pos 0 ≤ℤ (p.y +ℤ pos 2147483648)
  pub x_high : above_least p.x < 4294967296

-- the point at an index
abbrev pub point_at : Points → ℕ → Pt
point_at ps k = slice_index_or ps k (record { x = pos 0; y = pos 0 })

-- the points with their keys and indices, from this index on
abbrev pub keyed_from : ℕ → Points → List Keyed
keyed_from i [] = []
keyed_from i (p ∷ ps) = record { key = key_of p; index = i } ∷ keyed_from (suc i) ps

-- the key at a rank
abbrev pub key_at : List Keyed → ℕ → ℕ
key_at all r = (slice_index_or all r (record { key = 0; index = 0 })).key

-- the keys stand in order
abbrev pub AreRising : List Keyed → Type 0
AreRising all =
    (i j : ℕ) (d : Keyed) → i ≤ j → j < length all → (slice_index_or all i d).key ≤ (slice_index_or all j d).key

-- of those below rank the one at head is the first with the greatest key
pub record IsHead (all : List Keyed) (head rank : ℕ) : Type 0 where
  pub within : head ≤ rank
  pub before : (r : ℕ) → r < head → key_at all r < key_at all head
  pub below : (r : ℕ) → r < rank → key_at all r ≤ key_at all head

-- each point has a number, and equal ones have the same
pub record AreNodes (ps : Points) (nodes : List ℕ) : Type 0 where
  pub count : length nodes ≡ length ps
  pub within : (k : ℕ) → k < length ps → slice_index_or nodes k 0 < length ps
  pub same : (i j : ℕ) → i < length ps → j < length ps → point_at ps i ≡ point_at ps j
      → slice_index_or nodes i 0 ≡ slice_index_or nodes j 0
  pub told : (i j : ℕ) → i < length ps → j < length ps → slice_index_or nodes i 0 ≡ slice_index_or nodes j 0
      → point_at ps i ≡ point_at ps j
