use Rattle.std.proofs.Common.{◌≡◌, ◌+◌, ◌*◌, Ok}
use Rattle.std.specs.List.{All}
use Rattle.slice_base.specs.Boxes.{Box, grown}
use Rattle.slice_base.specs.Regions.{RegionIn}
use Rattle.slice_base.specs.Outcomes.{up_to}
use Rattle.wall_skin.specs.Sizes.{IsSmall}
use Rattle.wall_skin.specs.Walls.{wall_of}
use Rattle.wall_skin.proofs.walling.wall_loops.Given as goal

abbrev pub invariant-loop-k : goal.invariant-loop-k
invariant-loop-k l = record {
  so_far : up_to (wall_of l.outline l.width) l.k ≡ Ok l.walls;
  small : All IsSmall l.walls;
  within : (box : Box) → RegionIn box l.outline → All (RegionIn (grown (3 * l.most + 3) box)) l.walls;
}
