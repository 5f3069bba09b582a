-- Edges that a pass left whole, and those that are new.
use Rattle.std.specs.Prelude.{ℕ, ◌≡◌, ◌<◌, Bool, false, List, [], ◌∷◌, length, slice_index_or}
use Rattle.std.specs.List.{Contains}
use Rattle.slice_base.specs.declared.points.Edge.{Edge}
use Rattle.edge_cut.specs.declared.stops.Stop.{Stop}
use Rattle.edge_cut.specs.declared.passes.Marked.{Marked}
use Rattle.edge_cut.specs.Ordered.{MeetsAtEnds}
use Rattle.edge_cut.specs.Inner.Indices.{nothing}

-- there are two stops: the ends of e, in order
abbrev pub AreEnds : Edge → List Stop → Type 0
AreEnds e [] = ⊥
AreEnds e (s ∷ []) = ⊥
AreEnds e (s ∷ t ∷ []) = (s.at ≡ e.from) × (t.at ≡ e.to)
AreEnds e (s ∷ t ∷ u ∷ us) = ⊥

-- the edge is one of these, and meets all of them at its own ends alone
pub record IsWhole (all : List Marked) (m : Marked) : Type 0 where
  pub listed : Contains all m
  pub at_ends : (f : Marked) → Contains all f → MeetsAtEnds m.edge f

-- each of the edges `ms` is told to be new, or a pass over `all` left it whole
abbrev pub AreTold : List Marked → List Marked → List Bool → Type 0
AreTold all [] [] = Unit {0}
AreTold all [] (b ∷ bs) = ⊥
AreTold all (m ∷ ms) [] = ⊥
AreTold all (m ∷ ms) (b ∷ bs) = (b ≡ false → IsWhole all m) × AreTold all ms bs

-- of any two edges that aren't new, the first meets the second at its own ends alone
pub record AreSettled (all : List Marked) (news : List Bool) : Type 0 where
  pub count : length news ≡ length all
  pub at_ends : (i j : ℕ) → i < length all → j < length all → slice_index_or news i false ≡ false
      → slice_index_or news j false ≡ false
      → MeetsAtEnds (slice_index_or all i nothing).edge (slice_index_or all j nothing)
