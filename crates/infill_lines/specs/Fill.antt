-- The lines that fill a region.
use Rattle.std.specs.Prelude.{ℕ, zero, suc, ◌+◌, ◌-◌, ◌*◌, ◌/◌, ◌%◌, ℤ, pos, negsuc, ◌+ℤ◌, ◌-ℤ◌, int_lt, unsigned_abs, Bool, cond, Option, Some, None, List, [], ◌∷◌, ◌++◌}
use Rattle.slice_base.specs.declared.points.Pt.{Pt}
use Rattle.slice_base.specs.declared.points.Edge.{Edge}
use Rattle.slice_base.specs.Shapes.{Points, Loops}
use Rattle.slice_base.specs.Plane.{same_point}
use Rattle.infill_lines.specs.declared.angles.Angle.{Angle}
use Rattle.infill_lines.specs.declared.angles.Place.{Place}
use Rattle.infill_lines.specs.declared.extents.Extent.{Extent}
use Rattle.infill_lines.specs.Angles.{place_of, point_of, step_of}
use Rattle.infill_lines.specs.Crossings.{region_crossings}

-- less far along. Crossings of one line that are as far along are one place
abbrev pub is_before : Place → Place → Bool
is_before p q = int_lt p.along q.along

-- a crossing in its place among others in order
abbrev pub placed : Place → List Place → List Place
placed p [] = p ∷ []
placed p (q ∷ qs) = cond (is_before p q) (p ∷ q ∷ qs) (q ∷ placed p qs)

-- crossings put in order, one after another, behind those that are in order
abbrev pub in_order : List Place → List Place → List Place
in_order done [] = done
in_order done (p ∷ ps) = in_order (placed p done) ps

-- the edge between two points, if it has a length
abbrev pub edge_between : Pt → Pt → List Edge
edge_between p q = cond (same_point p q) [] (record { from = p; to = q } ∷ [])

-- the crossings of a line in pairs, from the first to the second
abbrev pub paired : Angle → List Place → List Edge
paired angle [] = []
paired angle (p ∷ []) = []
paired angle (p ∷ q ∷ rest) = edge_between (point_of angle p) (point_of angle q) ++ paired angle rest

-- what lies inside of the line at this place across
abbrev pub inside_of : Angle → Loops → ℤ → List Edge
inside_of angle region line = paired angle (in_order [] (region_crossings angle region line))

-- so many lines, this far apart, from number k of those that begin with the first one
abbrev pub lines_from : ℕ → Angle → Loops → ℕ → ℤ → ℕ → List Edge
lines_from zero angle region step first k = []
lines_from (suc n) angle region step first k =
    inside_of angle region (first +ℤ pos (k * step)) ++ lines_from n angle region step first (k + 1)

-- how far a number lies above the last multiple of d that isn't above it
abbrev pub above_of : ℤ → ℕ → ℕ
above_of (pos n) d = n % d
above_of (negsuc n) d = d - 1 - n % d

-- the extent, down to a place across that lies below it
abbrev pub lowered : Extent → ℤ → Extent
lowered e n = cond (int_lt n e.least) (record { least = n; greatest = e.greatest }) e

-- the extent, up to a place across that lies above it
abbrev pub raised : Extent → ℤ → Extent
raised e n = cond (int_lt e.greatest n) (record { least = e.least; greatest = n }) e

-- the least and the greatest place across, of those so far and one more
abbrev pub stretched : Option Extent → ℤ → Option Extent
stretched None n = Some (record { least = n; greatest = n })
stretched (Some e) n = Some (raised (lowered e n) n)

-- the same with all points of a loop
abbrev pub extent_of : Angle → Option Extent → Points → Option Extent
extent_of angle e [] = e
extent_of angle e (p ∷ ps) = extent_of angle (stretched e (place_of angle p).across) ps

-- the same with all points of a region
abbrev pub extent_of_all : Angle → Option Extent → Loops → Option Extent
extent_of_all angle e [] = e
extent_of_all angle e (l ∷ ls) = extent_of_all angle (extent_of angle e l) ls

-- the last line that isn't above the least place
abbrev pub first_line : ℕ → ℕ → Extent → ℤ
first_line step phase e = e.least -ℤ pos (above_of (e.least -ℤ pos phase) step)

-- how many lines there are from this one up to the greatest place
abbrev pub line_count : ℕ → ℤ → Extent → ℕ
line_count step first e = unsigned_abs (e.greatest -ℤ first) / step + 1

-- the lines that can meet the region; none where it has no point
abbrev pub filled : Angle → Loops → ℕ → ℕ → Option Extent → List Edge
filled angle region step phase None = []
filled angle region step phase (Some e) =
    lines_from (line_count step (first_line step phase e) e) angle region step (first_line step phase e) 0

-- of all lines at an angle, this far apart and from this phase on, the parts that lie inside of a region
unfoldable pub fill_of : Loops → Angle → ℕ → ℕ → List Edge
fill_of region angle step phase = filled angle region (step_of angle step) phase (extent_of_all angle None region)
