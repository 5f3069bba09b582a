-- The pieces of a group, and the way along each.
use Rattle.std.specs.Prelude.{ℕ, Bool, false, true, cond, List, [], ◌∷◌, ◌++◌, take, drop, Option, Some, None}
use Rattle.std.specs.List.{slice_get}
use Rattle.slice_base.specs.Shapes.{Points, Loops}
use Rattle.slice_base.specs.declared.points.Edge.{Edge}
use Rattle.path_order.specs.declared.pieces.Piece.{Piece}
use Rattle.path_order.specs.declared.pieces.Visit.{Visit}

-- the loops of a region
abbrev pub loops_of : Loops → List Piece
loops_of [] = []
loops_of (l ∷ ls) = record { points = l; closed = true } ∷ loops_of ls

-- the loops of regions, one region after another
abbrev pub loops_of_all : List Loops → List Piece
loops_of_all [] = []
loops_of_all (r ∷ rs) = loops_of r ++ loops_of_all rs

-- edges as lines of two points
abbrev pub lines_of : List Edge → List Piece
lines_of [] = []
lines_of (e ∷ es) = record { points = e.from ∷ e.to ∷ []; closed = false } ∷ lines_of es

-- the points from one of them on, and then those before it
abbrev pub turned : ℕ → Points → Points
turned start ps = drop start ps ++ take start ps

-- the first point again behind the last
abbrev pub closed_up : Points → Points
closed_up [] = []
closed_up (p ∷ ps) = (p ∷ ps) ++ p ∷ []

-- the way along a piece from a start: round to the start again, or to the other end
abbrev pub way_of : Piece → ℕ → Points
way_of p start = cond p.closed (closed_up (turned start p.points)) (turned start p.points)

-- the way along a piece, if there is one
abbrev pub way_if : Option Piece → ℕ → List Points
way_if None start = []
way_if (Some p) start = way_of p start ∷ []

-- the ways along the pieces that are visited, in order
abbrev pub ways_of : List Piece → List Visit → List Points
ways_of pieces [] = []
ways_of pieces (v ∷ vs) = way_if (slice_get pieces v.piece) v.start ++ ways_of pieces vs
