-- Points near each other.
use Rattle.std.specs.Prelude.{ℕ, ◌≤◌}
use Rattle.slice_base.specs.declared.points.Pt.{Pt}
use Rattle.slice_base.specs.Plane.{gap_of}

-- q is no further than this from p, along each axis
pub record IsWithin (far : ℕ) (p q : Pt) : Type 0 where
  pub x_near : gap_of p.x q.x ≤ far
  pub y_near : gap_of p.y q.y ≤ far
