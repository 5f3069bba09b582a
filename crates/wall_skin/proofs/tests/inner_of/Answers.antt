use Rattle.std.proofs.Common.{arith}
use Rattle.wall_skin.proofs.Boxes.{region_around-more}
use Rattle.wall_skin.proofs.tests.inner_of.Goals as goal

pub walls-requires-clause-room : goal.walls-requires-clause-room
walls-requires-clause-room c = region_around-more 100003 1698797 c.in_ok-outline.outline (omega arith) c.in_ok-outline.ensures.inside
