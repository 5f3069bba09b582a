-- Lines at an angle: how far across them a point lies, and how far along.
use Rattle.std.specs.Prelude.{ℕ, ◌*◌, ◌/◌, ℤ, pos, negsuc, ◌+ℤ◌, ◌-ℤ◌}
use Rattle.slice_base.specs.declared.points.Pt.{Pt}
use Rattle.slice_base.specs.Whole.{round_nat}
use Rattle.infill_lines.specs.declared.angles.Angle.{Angle}
use Rattle.infill_lines.specs.declared.angles.Angle.TheVariants.{A0, A45, A90, A135}
use Rattle.infill_lines.specs.declared.angles.Place.{Place}

-- how far across the lines of an angle a point lies, and how far along them
abbrev pub place_of : Angle → Pt → Place
place_of A0 p = record { across = p.y; along = p.x }
place_of A90 p = record { across = p.x; along = p.y }
place_of A45 p = record { across = p.x -ℤ p.y; along = p.x +ℤ p.y }
place_of A135 p = record { across = p.x +ℤ p.y; along = p.x -ℤ p.y }

-- half of a number, rounded down
abbrev pub half : ℤ → ℤ
half (pos n) = pos (n / 2)
half (negsuc n) = negsuc (n / 2)

-- the point at a place; where a slanting line has none there, the one less than a micron beside it
abbrev pub point_of : Angle → Place → Pt
point_of A0 at = record { x = at.along; y = at.across }
point_of A90 at = record { x = at.across; y = at.along }
point_of A45 at = record { x = half (at.across +ℤ at.along); y = half (at.across +ℤ at.along) -ℤ at.across }
point_of A135 at = record { x = half (at.across +ℤ at.along); y = at.across -ℤ half (at.across +ℤ at.along) }

-- the step from one line to the next, across them: 99 / 70 stands for the root of 2
abbrev pub step_of : Angle → ℕ → ℕ
step_of A0 step = step
step_of A90 step = step
step_of A45 step = round_nat (step * 99) 70
step_of A135 step = round_nat (step * 99) 70
