-- The index of the unused edges: for each point the first of those that start there.
use Rattle.std.specs.Prelude.{ℕ, ◌≡◌, ◌+◌, ◌<◌, ◌≤◌, nat_lt, cond, Bool, true, false, List, length, slice_index_or, Option, Some, None}
use Rattle.slice_base.specs.declared.points.Pt.{Pt}
use Rattle.slice_base.specs.declared.points.Edge.{Edge}
use Rattle.chain_core.specs.Ends.{ends_of}
use Rattle.chain_core.specs.Inner.Marked.{nowhere}
use Rattle.chain_core.specs.Inner.Nodes.{point_at, AreNodes}
use Rattle.chain_core.specs.declared.unused.Unused.{Unused}

-- an index below count; from count on it means none
abbrev pub known : ℕ → ℕ → Option ℕ
known count k = cond (nat_lt k count) (Some k) None

-- the least number below n with a property, if there is one
abbrev pub IsLeast : (ℕ → Type 0) → ℕ → Option ℕ → Type 0
IsLeast P n None = (k : ℕ) → k < n → P k → ⊥
IsLeast P n (Some i) = (i < n) × P i × ((k : ℕ) → k < i → P k → ⊥)

-- the point where the edge at a place starts
abbrev pub start_of : List Edge → ℕ → Pt
start_of es k = (slice_index_or es k nowhere).from

-- the point where the edge at a place ends
abbrev pub end_of : List Edge → ℕ → Pt
end_of es k = (slice_index_or es k nowhere).to

-- the edge at a place is unused and starts at p
abbrev pub IsUnusedAt : List Edge → List Bool → Pt → ℕ → Type 0
IsUnusedAt es us p k = (slice_index_or us k true ≡ false) × (start_of es k ≡ p)

-- the first unused edge that starts at p
abbrev pub IsFirstAt : List Edge → List Bool → Pt → Option ℕ → Type 0
IsFirstAt es us p = IsLeast (IsUnusedAt es us p) (length es)

-- the edge at a place is i or stands behind it, and starts at p
abbrev pub IsFromAt : List Edge → ℕ → Pt → ℕ → Type 0
IsFromAt es i p k = (i ≤ k) × (start_of es k ≡ p)

-- each node knows the first edge from the one at i on that starts there
abbrev pub KnowFirst : List Edge → ℕ → List ℕ → List ℕ → Type 0
KnowFirst es i nodes first =
    (k : ℕ) → k < length nodes
    → IsLeast (IsFromAt es i (point_at (ends_of es) k)) (length es)
    (known (length es) (slice_index_or first (slice_index_or nodes k 0) 0))

-- each edge from the one at i on knows the next one that starts where it does
abbrev pub KnowNext : List Edge → ℕ → List ℕ → Type 0
KnowNext es i after =
    (k : ℕ) → i ≤ k → k < length es
    → IsLeast (IsFromAt es (k + 1) (start_of es k)) (length es) (known (length es) (slice_index_or after k 0))

-- of the edges that start at one point none is used before the ones in front of it
abbrev pub AreInTurn : List Edge → List Bool → Type 0
AreInTurn es us =
    (i j : ℕ) → i < j → j < length es → start_of es j ≡ start_of es i → slice_index_or us i true ≡ false
    → slice_index_or us j true ≡ false

-- each node knows the first unused edge that starts there
abbrev pub KnowUnused : List Edge → List Bool → List ℕ → List ℕ → Type 0
KnowUnused es us nodes first =
    (k : ℕ) → k < length nodes
    → IsFirstAt es us (point_at (ends_of es) k)
    (known (length es) (slice_index_or first (slice_index_or nodes k 0) 0))

-- the index agrees with the edges and the marks
pub record IsIndexed (es : List Edge) (u : Unused) : Type 0 where
  pub same_length : length u.used ≡ length es
  pub nodes : AreNodes (ends_of es) u.nodes.items
  pub same_length_first : length u.first.items ≡ length u.nodes.items
  pub first : KnowUnused es u.used u.nodes.items u.first.items
  pub same_length_after : length u.after.items ≡ length es
  pub next : KnowNext es 0 u.after.items
  pub in_turn : AreInTurn es u.used
