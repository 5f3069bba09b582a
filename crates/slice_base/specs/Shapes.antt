-- Short names of lists: what a loop, a region and a text are in contracts.
use Rattle.std.specs.Prelude.{ℕ, List}
use Rattle.slice_base.specs.declared.points.Pt.{Pt}

-- the points of a loop, in order; the last one joins the first
abbrev pub Points : Type 0
Points = List Pt

-- the loops of a region, in order
abbrev pub Loops : Type 0
Loops = List (List Pt)

-- bytes, each below 256
abbrev pub Bytes : Type 0
Bytes = List ℕ
