use Rattle.slice_base.specs.Boxes.{around}
use Rattle.slice_base.specs.Regions.{RegionIn}
use Rattle.wall_skin.proofs.tests.region_of.Given as goal

abbrev pub invariant-loop-outline : goal.invariant-loop-outline
invariant-loop-outline l = RegionIn (around 100000) l.region
