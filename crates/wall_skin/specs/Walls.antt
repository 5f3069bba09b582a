-- The walls of an outline.
use Rattle.std.specs.Prelude.{ℕ, zero, suc, ◌+◌, ◌*◌, ◌/◌, pos, neg_ℤ, List, Result, Ok}
use Rattle.slice_base.specs.Shapes.{Loops}
use Rattle.slice_base.specs.Outcomes.{and_then, up_to}
use Rattle.offset_core.specs.Offset.{offset_of}
use Rattle.wall_skin.specs.declared.walling.WallSet.{WallSet}

-- how far the middle of wall k, counted from the outside, lies inside the outline: half a width, rounded up, and k
-- whole ones
abbrev pub middle_of : ℕ → ℕ → ℕ
middle_of width k = (width + 1) / 2 + k * width

-- wall k: the loops that its middle follows
abbrev pub wall_of : Loops → ℕ → ℕ → Result Loops ℕ
wall_of outline width k = offset_of (neg_ℤ (pos (middle_of width k))) outline

-- what lies inside so many walls: the outline where there is none
abbrev pub inner_area_of : Loops → ℕ → ℕ → Result Loops ℕ
inner_area_of outline width zero = Ok outline
inner_area_of outline width (suc n) = offset_of (neg_ℤ (pos (suc n * width))) outline

-- walls, and what lies inside them
abbrev pub set_of : List Loops → Loops → WallSet
set_of loops inner = record { loops = loops; inner = inner }

-- these walls, and then what lies inside so many
abbrev pub with_inner : Loops → ℕ → ℕ → List Loops → Result WallSet ℕ
with_inner outline count width loops = and_then (inner_area_of outline width count) (λ inner. Ok (set_of loops inner))

-- the walls from the outside in, and then what lies inside them; the first cut that fails ends the work
unfoldable pub walls_of : Loops → ℕ → ℕ → Result WallSet ℕ
walls_of outline count width = and_then (up_to (wall_of outline width) count) (with_inner outline count width)
