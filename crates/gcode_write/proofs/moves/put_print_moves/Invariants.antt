use Rattle.gcode_write.proofs.Walks.{WroteMoves}
use Rattle.gcode_write.proofs.moves.put_print_moves.Given as goal

abbrev pub invariant-loop-p : goal.invariant-loop-p
invariant-loop-p g l = WroteMoves g.S.Sink.output l.x l.area l.initial.told l.initial.total l.initial.at l.points l.initial.pen l.p-index l.told l.total l.at l.pen
