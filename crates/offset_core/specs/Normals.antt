-- Normals of edges.
use Rattle.std.specs.Prelude.{ℕ, ◌*◌, ℤ, pos, ◌-ℤ◌, ◌*ℤ◌}
use Rattle.slice_base.specs.declared.points.Pt.{Pt}
use Rattle.slice_base.specs.Plane.{square_of}
use Rattle.slice_base.specs.Whole.{rounded, root_of}

-- how far q is from p, in nm, to nearest
abbrev pub nanometres_of : Pt → Pt → ℕ
nanometres_of p q = root_of (1000000 * square_of p q)

-- the part along one axis of a vector of length d in the direction of an edge: the edge goes `step` µm along the
-- axis and is `whole` nm long; 0 where it has no length
abbrev pub part_of : ℤ → ℤ → ℕ → ℤ
part_of d step whole = rounded ((step *ℤ d) *ℤ pos 1000) whole

-- the vector of length d at a right angle to the edge from p to q, to its right, or to its left below 0
abbrev pub normal_of : ℤ → Pt → Pt → Pt
normal_of d p q = record {
  x = part_of d (q.y -ℤ p.y) (nanometres_of p q);
  y = part_of d (p.x -ℤ q.x) (nanometres_of p q);
}
