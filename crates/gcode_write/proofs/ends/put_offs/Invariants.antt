use Rattle.std.proofs.Common.{drop}
use Rattle.outside.specs.Pens.{Going}
use Rattle.gcode_write.specs.Ends.{offs_of}
use Rattle.gcode_write.proofs.ends.put_offs.Given as goal

abbrev pub invariant-loop-e : goal.invariant-loop-e
invariant-loop-e g l = Going g.S.Sink.output l.initial.pen (offs_of l.job l.extruders) (offs_of l.job (drop l.e-index l.extruders)) l.pen
