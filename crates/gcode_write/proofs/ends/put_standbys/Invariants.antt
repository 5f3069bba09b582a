use Rattle.std.proofs.Common.{drop}
use Rattle.outside.specs.Pens.{Going}
use Rattle.gcode_write.specs.Ends.{standbys_of}
use Rattle.gcode_write.proofs.ends.put_standbys.Given as goal

abbrev pub invariant-loop-e : goal.invariant-loop-e
invariant-loop-e g l = Going g.S.Sink.output l.initial.pen (standbys_of l.job l.extruders) (standbys_of l.job (drop l.e-index l.extruders)) l.pen
