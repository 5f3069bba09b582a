-- Blocks of neighbours in a list of spans.
use Rattle.std.specs.Prelude.{ℕ, ◌≡◌, ◌+◌, ◌*◌, ◌<◌, ◌≤◌, Bool, cond, ◌≤ℤ◌, List, [], ◌∷◌, ◌++◌, length, drop, slice_index_or}
use Rattle.clip_bands.specs.declared.bands.Span.{Span}
use Rattle.clip_bands.specs.Indices.{indices_from}

-- the index, if it passed
abbrev pub index_if : Bool → ℕ → List ℕ
index_if passed i = cond passed (i ∷ []) []

-- s holds each number of t
pub record Covers (s t : Span) : Type 0 where
  pub low : s.low ≤ℤ t.low
  pub high : t.high ≤ℤ s.high

-- the span holds those from i on, up to 16 of them
abbrev pub IsHull : Span → List Span → ℕ → Type 0
IsHull hull spans from =
    (i : ℕ) (d : Span) → from ≤ i → i < from + 16 → i < length spans → Covers hull (slice_index_or spans i d)

-- the block at k holds the spans from 16 k on, up to 16 of them
pub record Hulls (spans blocks : List Span) : Type 0 where
  pub enough : length spans ≤ 16 * length blocks
  pub fits : 16 * length blocks ≤ length spans + 15
  pub covers : (k : ℕ) (d : Span) → k < length blocks → IsHull (slice_index_or blocks k d) spans (16 * k)

-- with a block's indices found, the indices of the spans behind it are all that is left to find
abbrev pub FindsBlock : (Span → Bool) → List Span → ℕ → List ℕ → List ℕ → Type 0
FindsBlock test spans from old new =
    new ++ indices_from test (from + 16) (drop (from + 16) spans) ≡ old ++ indices_from test from (drop from spans)
