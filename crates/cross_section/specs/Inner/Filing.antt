-- Filing one triangle after another: what the parts of it ask of each other.
use Rattle.std.specs.Prelude.{ℕ, ℤ, ◌≡◌, ◌+◌, ◌<◌, ◌≤ℤ◌, ◌++◌, cond, ◌&&◌, nat_le, nat_lt, List, [], ◌∷◌, length, take, slice_index_or}
use Rattle.std.specs.List.{All, filter_map}
use Rattle.slice_base.specs.declared.points.Tri.{Tri}
use Rattle.cross_section.specs.declared.shelves.Scale.{Scale}
use Rattle.cross_section.specs.Section.{section_of}
use Rattle.cross_section.specs.Inner.Shelves.{shelf_of, edge_at}

-- number k was put on each shelf from one to another, behind what lay there
abbrev pub IsPut : List (List ℕ) → List (List ℕ) → ℕ → ℕ → ℕ → Type 0
IsPut old new from to k =
    (b : ℕ)
    → slice_index_or new b []
    ≡ cond (nat_le from b && nat_lt b (to + 1)) (slice_index_or old b [] ++ k ∷ []) (slice_index_or old b [])

-- the first n triangles are filed
pub record AreFirstFiled (tris : List Tri) (s : Scale) (lists : List (List ℕ)) (n : ℕ) : Type 0 where
  pub known : (b : ℕ) → All (λ k. k < length tris) (slice_index_or lists b [])
  pub found : (z : ℤ) → s.span.low ≤ℤ z → z ≤ℤ s.span.high
      → filter_map (edge_at tris z) (slice_index_or lists (shelf_of s z) []) ≡ section_of (take n tris) z
