use Rattle.edge_cut.proofs.AtEnds.{level-same, level-not}
use Rattle.edge_cut.proofs.meetings.push_meetings.Goals as goal

pub push_parallel-requires-clause-level : goal.push_parallel-requires-clause-level
push_parallel-requires-clause-level c = level-same c.sides_of-sides.result c.are_level.result c.are_level.ensures c.if-are_level.true

pub meeting_of-requires-clause-other : goal.meeting_of-requires-clause-other
meeting_of-requires-clause-other c = level-not c.sides_of-sides.result c.are_level.result c.are_level.ensures c.if-are_level.false
