-- Unused edges as those without a mark.
use Rattle.std.specs.Prelude.{ℕ, suc, ◌≡◌, Bool, true, false, List, [], ◌∷◌, ◌++◌, length, pos, slice_set, slice_index_or}
use Rattle.slice_base.specs.declared.points.Pt.{Pt}
use Rattle.slice_base.specs.Shapes.{Points, Loops}
use Rattle.slice_base.specs.declared.points.Edge.{Edge}
use Rattle.chain_core.specs.declared.chains.Chains.{Chains}
use Rattle.chain_core.specs.Link.{Found, Chain, extend}

-- the edges whose mark is false, in order
abbrev pub unmarked : List Edge → List Bool → List Edge
unmarked [] us = []
unmarked (e ∷ es) [] = []
unmarked (e ∷ es) (false ∷ us) = e ∷ unmarked es us
unmarked (e ∷ es) (true ∷ us) = unmarked es us

-- an edge that stands in no list: what is found at a place where there is none
abbrev pub nowhere : Edge
nowhere = record { from = record { x = pos 0; y = pos 0 }; to = record { x = pos 0; y = pos 0 } }

-- the edge at a place, and the unmarked ones once it is marked
abbrev pub found_at : List Edge → List Bool → ℕ → Found
found_at es us i = record { edge = slice_index_or es i nowhere; others = unmarked es (slice_set us i true) }

-- every place that was marked still is
abbrev pub KeepsMarks : List Bool → List Bool → Type 0
KeepsMarks old new = (k : ℕ) → slice_index_or old k false ≡ true → slice_index_or new k false ≡ true

-- the points of a chain that was begun, and then those that it adds
abbrev pub put_points : Points → Chain → Chain
put_points ps c = record c { points = ps ++ c.points }

-- what a chain from start that has come to `at` adds
abbrev pub extend_all : Pt → Pt → List Edge → Chain
extend_all start at unused = extend (suc (length unused)) start at unused

-- chains that were found before, and then the others
abbrev pub put_chains : Loops → Loops → Chains → Chains
put_chains closed loose chains = record { closed = closed ++ chains.closed; loose = loose ++ chains.loose }
