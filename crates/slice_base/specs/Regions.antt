-- What is said of regions as wholes.
use Rattle.std.specs.Prelude.{ℕ, ◌≤◌, length, sum_by}
use Rattle.std.specs.List.{All}
use Rattle.slice_base.specs.Boxes.{Box, IsIn}
use Rattle.slice_base.specs.Shapes.{Loops}

-- the number of points of all loops together
abbrev pub points_in : Loops → ℕ
points_in region = sum_by length region

-- each loop has this many points or more
abbrev pub HaveAtLeast : ℕ → Loops → Type 0
HaveAtLeast n region = All (λ points. n ≤ length points) region

-- each point of the region lies in the box
abbrev pub RegionIn : Box → Loops → Type 0
RegionIn box region = All (All (IsIn box)) region
