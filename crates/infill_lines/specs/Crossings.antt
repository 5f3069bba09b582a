-- Where an outline crosses a line.
use Rattle.std.specs.Prelude.{ℤ, ◌-ℤ◌, int_lt, int_le, cond, ◌&&◌, List, [], ◌∷◌, ◌++◌}
use Rattle.slice_base.specs.Shapes.{Points, Loops}
use Rattle.slice_base.specs.Whole.{way_of}
use Rattle.infill_lines.specs.declared.angles.Angle.{Angle}
use Rattle.infill_lines.specs.declared.angles.Place.{Place}
use Rattle.infill_lines.specs.Angles.{place_of}

-- the place on the way from the lower to the upper place where the line lies
abbrev pub between : Place → Place → ℤ → Place
between low high line = record {
  across = line;
  along = way_of low.along high.along (line -ℤ low.across) (high.across -ℤ low.across);
}

-- the lower end is at most at the line, the upper end above it
abbrev pub crosses_up : Place → Place → ℤ → List Place
crosses_up low high line = cond (int_le low.across line && int_lt line high.across) (between low high line ∷ []) []

-- where the way between two places crosses a line
abbrev pub crossing_of : Place → Place → ℤ → List Place
crossing_of p q line = cond (int_le p.across q.across) (crosses_up p q line) (crosses_up q p line)

-- where the edges from a place through others, and from the last one to the first, cross a line
abbrev pub crossings_from : Angle → Place → Place → Points → ℤ → List Place
crossings_from angle first p [] line = crossing_of p first line
crossings_from angle first p (q ∷ qs) line =
    crossing_of p (place_of angle q) line ++ crossings_from angle first (place_of angle q) qs line

-- where a loop crosses a line
abbrev pub loop_crossings : Angle → Points → ℤ → List Place
loop_crossings angle [] line = []
loop_crossings angle (p ∷ ps) line = crossings_from angle (place_of angle p) (place_of angle p) ps line

-- where all loops cross a line
abbrev pub region_crossings : Angle → Loops → ℤ → List Place
region_crossings angle [] line = []
region_crossings angle (l ∷ ls) line = loop_crossings angle l line ++ region_crossings angle ls line
