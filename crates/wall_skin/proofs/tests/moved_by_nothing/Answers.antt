use Rattle.std.proofs.Common.{arith}
use Rattle.slice_base.specs.Boxes.{around}
use Rattle.wall_skin.proofs.Boxes.{region_around-more}
use Rattle.wall_skin.proofs.tests.moved_by_nothing.Goals as goal

pub offset-requires-clause-room : goal.offset-requires-clause-room
offset-requires-clause-room c = region_around-more 100000 1699997 c.in_ok-region_of.field-0 (omega arith) c.in_ok-region_of.ensures

pub returns-clause-inside : goal.returns-clause-inside
returns-clause-inside c = c.in_ok-offset.ensures.within (around 100000) c.in_ok-region_of.ensures
