-- Crossings, filed by the number of the line on which they lie.
use Rattle.std.specs.Prelude.{ℕ, ◌*◌, ◌<◌, ◌≤◌, ◌≡◌, ℤ, pos, ◌+ℤ◌, unsigned_abs, List, [], ◌++◌, length, slice_index_or}
use Rattle.slice_base.specs.Shapes.{Loops}
use Rattle.infill_lines.specs.declared.angles.Angle.{Angle}
use Rattle.infill_lines.specs.declared.angles.Place.{Place}
use Rattle.infill_lines.specs.declared.rows.Lines.{Lines}
use Rattle.infill_lines.specs.Crossings.{region_crossings}

-- where across line k lies
abbrev pub line_at : Lines → ℕ → ℤ
line_at lines k = lines.first +ℤ pos (k * lines.step)

-- no more lines, and no further out, than fit on a bed
pub record AreLines (lines : Lines) : Type 0 where
  pub first_in : unsigned_abs lines.first ≤ 4000000
  pub apart : 50 ≤ lines.step
  pub not_wide : lines.step ≤ 200000
  pub few : lines.count * lines.step ≤ 10000000

-- the places that are filed for line k
abbrev pub row_at : List (List Place) → ℕ → List Place
row_at rows k = slice_index_or rows k []

-- each line has those places more that the line has of something
abbrev pub HaveMore : Lines → List (List Place) → List (List Place) → (ℤ → List Place) → Type 0
HaveMore lines old new more = (k : ℕ) → k < lines.count → row_at new k ≡ row_at old k ++ more (line_at lines k)

-- each line has the places where the region crosses it
pub record AreRows (angle : Angle) (region : Loops) (lines : Lines) (rows : List (List Place)) : Type 0 where
  pub count : length rows ≡ lines.count
  pub filed : (k : ℕ) → k < lines.count → row_at rows k ≡ region_crossings angle region (line_at lines k)
