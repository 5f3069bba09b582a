-- What holds of pieces, groups and drawings.
use Rattle.std.specs.Prelude.{ℕ, ◌*◌, ◌≡◌, ◌≤◌, false, unsigned_abs, List, length}
use Rattle.std.specs.List.{All, sum_by}
use Rattle.slice_base.specs.Shapes.{Points}
use Rattle.slice_base.specs.Plane.{InSquare}
use Rattle.plan_types.specs.declared.plans.ExtruderPlan.{ExtruderPlan}
use Rattle.plan_types.specs.Plans.{moves_of, moves_in, volume_of, volume_in, time_in}
use Rattle.path_order.specs.declared.pieces.Piece.{Piece}
use Rattle.layer_plan.specs.declared.groups.Pen.{Pen}
use Rattle.layer_plan.specs.declared.groups.Group.{Group}
use Rattle.layer_plan.specs.declared.groups.Sheet.{Sheet}
use Rattle.layer_plan.specs.declared.drawing.Drawing.{Drawing}

-- a piece of 1 to 150,000 points that lie not further out than 1.7 m, of two at least where it isn't closed
pub record IsPiece (p : Piece) : Type 0 where
  pub some : 1 ≤ length p.points
  pub few : length p.points ≤ 150000
  pub inside : All (InSquare 1700000) p.points
  pub two : p.closed ≡ false → 2 ≤ length p.points

-- points that a path can go along
pub record IsWay (points : Points) : Type 0 where
  pub some : 2 ≤ length points
  pub few : length points ≤ 200000
  pub inside : All (InSquare 1700000) points

-- a layer no higher than 2 mm
pub record IsSheet (sheet : Sheet) : Type 0 where
  pub thin : unsigned_abs sheet.thickness ≤ 2000

-- a pen that can print: lines of at most 2 mm by 2 mm, at a speed of 1 to 1,000,000 µm/s
pub record IsPen (pen : Pen) : Type 0 where
  pub some : 1 ≤ pen.speed
  pub not_fast : pen.speed ≤ 1000000
  pub narrow : unsigned_abs pen.width ≤ 2000
  pub thin : unsigned_abs pen.thickness ≤ 2000

-- pieces and a pen that can be printed
pub record IsGroup (g : Group) : Type 0 where
  pub pieces_are : All IsPiece g.pieces
  pub pen_is : IsPen g.pen

-- one stands in the plane of plans; the paths have no time yet, and each move prints no more than a move can
pub record IsDrawing (d : Drawing) : Type 0 where
  pub at_in : InSquare 1700000 d.at
  pub volume_small : sum_by volume_of d.paths ≤ sum_by moves_of d.paths * 33554432000000
  pub untimed : sum_by (λ path. path.time) d.paths ≡ 0

-- the same of the plans of extruders
pub record AreDrawn (plans : List ExtruderPlan) : Type 0 where
  pub volume_small : volume_in plans ≤ moves_in plans * 33554432000000
  pub untimed : time_in plans ≡ 0
