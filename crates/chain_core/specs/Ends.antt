-- The ends of edges, and what is made of these alone.
use Rattle.std.specs.Prelude.{List, [], ◌∷◌}
use Rattle.std.specs.List.{All, Contains}
use Rattle.slice_base.specs.Shapes.{Points, Loops}
use Rattle.slice_base.specs.declared.points.Edge.{Edge}

-- both ends of each edge
abbrev pub ends_of : List Edge → Points
ends_of [] = []
ends_of (e ∷ es) = e.from ∷ e.to ∷ ends_of es

-- each point of each loop is an end of one of the edges
abbrev pub AreOfEnds : List Edge → Loops → Type 0
AreOfEnds edges loops = All (All (Contains (ends_of edges))) loops
