-- How far out places and extents lie.
use Rattle.std.specs.Prelude.{ℕ, ◌≤◌, ◌≤ℤ◌, unsigned_abs, Option, Some, None}
use Rattle.infill_lines.specs.declared.angles.Place.{Place}
use Rattle.infill_lines.specs.declared.extents.Extent.{Extent}

-- the place isn't further out than this, across and along
pub record IsPlace (n : ℕ) (at : Place) : Type 0 where
  pub across_in : unsigned_abs at.across ≤ n
  pub along_in : unsigned_abs at.along ≤ n

-- both ends are places across of points that a region may have, and the greatest isn't below the least
pub record IsSpan (e : Extent) : Type 0 where
  pub least_in : unsigned_abs e.least ≤ 3400000
  pub greatest_in : unsigned_abs e.greatest ≤ 3400000
  pub rising : e.least ≤ℤ e.greatest

-- no extent, or such a one
abbrev pub IsExtent : Option Extent → Type 0
IsExtent None = Unit {0}
IsExtent (Some e) = IsSpan e
