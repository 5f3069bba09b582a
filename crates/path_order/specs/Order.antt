-- The order of visits: always the nearest start that remains.
use Rattle.std.specs.Prelude.{ℕ, zero, suc, ◌+◌, ◌-◌, ◌==◌, nat_lt, Bool, false, cond, not, ◌&&◌, ◌||◌, List, [], ◌∷◌, length, Option, Some, None, slice_index_or}
use Rattle.std.specs.List.{filter, slice_get}
use Rattle.slice_base.specs.declared.points.Pt.{Pt}
use Rattle.slice_base.specs.Plane.{square_of}
use Rattle.settings_core.specs.declared.resolved.Seam.{Seam}
use Rattle.path_order.specs.declared.pieces.Piece.{Piece}
use Rattle.path_order.specs.declared.pieces.Visit.{Visit}
use Rattle.path_order.specs.declared.starts.Start.{Start}
use Rattle.path_order.specs.declared.choices.Choice.{Choice}
use Rattle.path_order.specs.Starts.{all_starts}

-- a start, and the square of the way to it
abbrev pub choice_from : Pt → Start → Choice
choice_from at s = record { square = square_of at s.at; piece = s.piece; start = s.start }

-- the lesser square comes first, at a tie the lesser piece, then the lesser start
abbrev pub is_before : Choice → Choice → Bool
is_before c d =
    nat_lt c.square d.square
    || (c.square == d.square && (nat_lt c.piece d.piece || (c.piece == d.piece && nat_lt c.start d.start)))

-- the one of two that comes first
abbrev pub nearer : Option Choice → Choice → Option Choice
nearer None c = Some c
nearer (Some best) c = cond (is_before c best) (Some c) (Some best)

-- the one that comes first, of the best so far and these starts
abbrev pub nearest : Pt → Option Choice → List Start → Option Choice
nearest at best [] = best
nearest at best (s ∷ ss) = nearest at (nearer best (choice_from at s)) ss

-- the starts of all pieces but one
abbrev pub others : ℕ → List Start → List Start
others piece ss = filter (λ s. not (s.piece == piece)) ss

-- the visit that a choice stands for
abbrev pub visit_of : Choice → Visit
visit_of c = record { piece = c.piece; start = c.start }

-- the point of this index, or this one where there is none
abbrev pub point_or : Pt → Option Pt → Pt
point_or at None = at
point_or at (Some p) = p

-- where one stands after a piece: where it began, if it is closed, else at its other end
abbrev pub end_of : Pt → ℕ → Option Piece → Pt
end_of at start None = at
end_of at start (Some p) = point_or at (slice_get p.points (cond p.closed start (1 - start)))

-- where one stands after the piece that was chosen
abbrev pub stands_after : List Piece → Pt → Choice → Pt
stands_after pieces at c = end_of at c.start (slice_get pieces c.piece)

-- nothing where nothing was found
abbrev pub go_on : Option Choice → (Choice → List Visit) → List Visit
go_on None next = []
go_on (Some c) next = next c

-- so many visits, from where one stands, with the starts that remain
unfoldable pub visits_in : ℕ → List Piece → Pt → List Start → List Visit
visits_in zero pieces at starts = []
visits_in (suc turns) pieces at starts =
    go_on (nearest at None starts)
    (λ c. visit_of c ∷ visits_in turns pieces (stands_after pieces at c) (others c.piece starts))

-- one visit for each piece
abbrev pub order_of : List Piece → Pt → Seam → List Visit
order_of pieces from seam = visits_in (length pieces) pieces from (all_starts seam 0 pieces)
