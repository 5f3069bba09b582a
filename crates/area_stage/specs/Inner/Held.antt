-- What holds of areas while a job is worked out.
use Rattle.std.specs.Prelude.{◌≤◌, List, length}
use Rattle.std.specs.List.{All}
use Rattle.slice_base.specs.Boxes.{around}
use Rattle.slice_base.specs.Regions.{RegionIn}
use Rattle.slice_base.specs.Shapes.{Loops}
use Rattle.wall_skin.specs.Sizes.{IsSmall}
use Rattle.plan_types.specs.Areas.{IsArea, IsLoop}

-- a cleaned outline: small, and not further out than a bed reaches
pub record IsOutline (region : Loops) : Type 0 where
  pub small : IsSmall region
  pub inside : RegionIn (around 1000000) region

-- walls as a job holds them
pub record AreWalls (loops : List Loops) : Type 0 where
  pub each : All IsArea loops
  pub few : length loops ≤ 20

-- skin and fill as a job holds them
pub record AreParts (skin fill : Loops) : Type 0 where
  pub skin_is : IsArea skin
  pub fill_is : IsArea fill

-- lines of the skirt as a job holds them
abbrev pub AreLines : Loops → Type 0
AreLines loops = All (IsLoop 1600000) loops
