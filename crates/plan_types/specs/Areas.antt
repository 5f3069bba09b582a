-- Areas as contracts see them, and what holds of each.
use Rattle.std.specs.Prelude.{ℕ, ◌≤◌, List, length}
use Rattle.std.specs.List.{All, sum_by}
use Rattle.slice_base.specs.declared.points.Pt.{Pt}
use Rattle.slice_base.specs.Limits.{max_region_points}
use Rattle.slice_base.specs.Plane.{InSquare}

-- the areas of a mesh on a layer: the record of its fields
pub record MeshAreasValue : Type 0 where
  pub walls : List (List (List Pt))
  pub skin : List (List Pt)
  pub fill : List (List Pt)

-- a loop of 1 to 150,000 points that lie not further out than this
pub record IsLoop (half : ℕ) (points : List Pt) : Type 0 where
  pub some : 1 ≤ length points
  pub few : length points ≤ max_region_points
  pub inside : All (InSquare half) points

-- a region of a job: at most 150,000 points, not further out than 1.6 m, no loop without points
pub record IsArea (region : List (List Pt)) : Type 0 where
  pub loops : All (IsLoop 1600000) region
  pub few : sum_by length region ≤ max_region_points

-- the areas of a mesh on a layer, with at most 20 walls
pub record AreAreas (walls : List (List (List Pt))) (skin fill : List (List Pt)) : Type 0 where
  pub walls_are : All IsArea walls
  pub few : length walls ≤ 20
  pub skin_is : IsArea skin
  pub fill_is : IsArea fill
