-- The greatest height, found triangle by triangle.
use Rattle.std.specs.Prelude.{ℤ}
use Rattle.std.specs.Int.{int_max}
use Rattle.slice_base.specs.declared.points.Tri.{Tri}

-- the greater of a height and those of a triangle's corners
abbrev pub raised : ℤ → Tri → ℤ
raised z t = int_max (int_max (int_max z t.a.z) t.b.z) t.c.z
