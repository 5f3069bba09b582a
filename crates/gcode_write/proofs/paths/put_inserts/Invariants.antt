use Rattle.std.proofs.Common.{drop}
use Rattle.outside.specs.Pens.{Going}
use Rattle.gcode_write.specs.Paths.{inserts_of}
use Rattle.gcode_write.proofs.paths.put_inserts.Given as goal

abbrev pub invariant-loop-insert : goal.invariant-loop-insert
invariant-loop-insert g l = Going g.S.Sink.output l.initial.pen (inserts_of l.at l.inserts) (inserts_of l.at (drop l.insert-index l.inserts)) l.pen
