-- What each region has that comes of clipping.
use Rattle.std.specs.Prelude.{◌≤◌}
use Rattle.slice_base.specs.Shapes.{Loops}
use Rattle.slice_base.specs.Limits.{max_region_points}
use Rattle.slice_base.specs.Regions.{points_in, HaveAtLeast}

-- at most 150,000 points, and no loop without points
pub record IsSmall (region : Loops) : Type 0 where
  pub few : points_in region ≤ max_region_points
  pub least : HaveAtLeast 1 region
