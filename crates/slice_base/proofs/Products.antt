-- Sums of products of steps.
use Rattle.std.proofs.Common.{◌≡◌, ℤ, ◌-ℤ◌, ◌+ℤ◌, ◌*ℤ◌}
use Rattle.slice_base.specs.declared.points.Pt.{Pt}
use Rattle.slice_base.specs.Plane.{dot_of}

pub dot-is : (p q ux vy uy vx r : ℤ) (a b c d : Pt) → r ≡ p +ℤ q → p ≡ ux *ℤ vx → q ≡ uy *ℤ vy → ux ≡ b.x -ℤ a.x → vy ≡ d.y -ℤ c.y → uy ≡ b.y -ℤ a.y → vx ≡ d.x -ℤ c.x → r ≡ dot_of a b c d
dot-is p q ux vy uy vx r a b c d er ep eq eux evy euy evx = rw (er, ep, eq, eux, evy, euy, evx)
