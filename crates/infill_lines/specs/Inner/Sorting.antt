-- Places of one line, ordered by a number.
use Rattle.std.specs.Prelude.{ℕ, ℤ, ◌≡◌, pos, ◌+ℤ◌, unsigned_abs}
use Rattle.infill_lines.specs.declared.angles.Place.{Place}
use Rattle.infill_lines.specs.Inner.Places.{IsPlace}

-- how far along a place lies, counted from the least number of 32 bits
abbrev pub number_of : Place → ℕ
number_of p = unsigned_abs (p.along +ℤ pos 2147483648)

-- the place is on the line that lies there, not far out
pub record IsOnLine (line : ℤ) (p : Place) : Type 0 where
  pub here : p.across ≡ line
  pub place : IsPlace 3400000 p
