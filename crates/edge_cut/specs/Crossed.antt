-- What a meeting point is to both of its edges.
use Rattle.std.specs.Prelude.{ℕ, ◌≡◌, ◌≤◌, pos, true}
use Rattle.slice_base.specs.declared.points.Pt.{Pt}
use Rattle.slice_base.specs.declared.points.Edge.{Edge}
use Rattle.slice_base.specs.Plane.{cross_of}
use Rattle.edge_cut.specs.Meeting.{is_beside, weighted}

-- before it is rounded, the point at part / whole of the way along e is the one at other / whole of the way along f
pub record IsOnePoint (e f : Edge) (part other whole : ℕ) : Type 0 where
  pub on_first : part ≤ whole
  pub on_second : other ≤ whole
  pub x : weighted e.from.x e.to.x part whole ≡ weighted f.from.x f.to.x other whole
  pub y : weighted e.from.y e.to.y part whole ≡ weighted f.from.y f.to.y other whole

-- the point lies on the line of e, and between its ends
pub record LiesOn (e : Edge) (p : Pt) : Type 0 where
  pub on_line : cross_of e.from e.to e.from p ≡ pos 0
  pub between : is_beside e p ≡ true
