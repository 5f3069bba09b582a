-- Starts of pieces that there are, and those that remain: with a mark for each piece that is gone.
use Rattle.std.specs.Prelude.{ℕ, pos, ◌<◌, Bool, false, cond, not, List, [], ◌∷◌, Option, slice_index_or}
use Rattle.std.specs.List.{filter}
use Rattle.slice_base.specs.declared.points.Pt.{Pt}
use Rattle.path_order.specs.declared.starts.Start.{Start}
use Rattle.path_order.specs.declared.choices.Choice.{Choice}
use Rattle.path_order.specs.Order.{choice_from, nearer}

-- a start that isn't there
abbrev pub no_start : Start
no_start = record { piece = 0; start = 0; at = record { x = pos 0; y = pos 0 } }

-- the starts are those of the first n pieces
abbrev pub Known : ℕ → List Start → Type 0
Known n [] = Unit {0}
Known n (s ∷ ss) = (s.piece < n) × Known n ss

-- ---- with a mark for each piece that is gone

-- the piece of this number is gone
abbrev pub is_gone : List Bool → ℕ → Bool
is_gone marks piece = slice_index_or marks piece false

-- the starts of pieces that aren't gone
abbrev pub remaining : List Bool → List Start → List Start
remaining marks ss = filter (λ s. not (is_gone marks s.piece)) ss

-- the best so far, after one start more
abbrev pub considered : List Bool → Pt → Option Choice → Start → Option Choice
considered marks at best s = cond (is_gone marks s.piece) best (nearer best (choice_from at s))

-- the nearest one of those that remain, of the best so far and these
abbrev pub nearest_left : List Bool → Pt → Option Choice → List Start → Option Choice
nearest_left marks at best [] = best
nearest_left marks at best (s ∷ ss) = nearest_left marks at (considered marks at best s) ss
