use Rattle.std.proofs.Common.{arith}
use Rattle.wall_skin.proofs.Boxes.{region_around-more}
use Rattle.wall_skin.proofs.tests.shrunk_by_200.Goals as goal

pub offset-requires-clause-room : goal.offset-requires-clause-room
offset-requires-clause-room c = region_around-more 100000 1699397 c.in_ok-region_of.field-0 (omega arith) c.in_ok-region_of.ensures
