-- Paths as contracts see them, and what holds of each.
use Rattle.std.specs.Prelude.{ℕ, ℤ, Bool, ◌≤◌, List, length}
use Rattle.std.specs.List.{All}
use Rattle.slice_base.specs.declared.points.Pt.{Pt}
use Rattle.slice_base.specs.Plane.{InSquare}
use Rattle.plan_types.specs.declared.plans.Kind.{Kind}

-- a path: the record of its fields
pub record PathValue : Type 0 where
  pub kind : Kind
  pub width : ℤ
  pub thickness : ℤ
  pub speed : ℕ
  pub points : List Pt
  pub retract : Bool
  pub time : ℕ
  pub before : ℕ

-- a path that can be printed: 2 to 200,000 points not further out than 1.7 m, a speed of 1 to 1,000,000 µm/s
pub record IsPath (speed : ℕ) (points : List Pt) : Type 0 where
  pub some : 2 ≤ length points
  pub few : length points ≤ 200000
  pub inside : All (InSquare 1700000) points
  pub moves : 1 ≤ speed
  pub not_fast : speed ≤ 1000000
