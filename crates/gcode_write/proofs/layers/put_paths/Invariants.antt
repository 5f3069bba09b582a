use Rattle.gcode_write.proofs.Walks.{WrotePaths}
use Rattle.gcode_write.proofs.layers.put_paths.Given as goal

abbrev pub invariant-loop-path : goal.invariant-loop-path
invariant-loop-path g l = WrotePaths g.S.Sink.output l.extruders l.layer l.initial.now l.e l.initial.next l.paths l.initial.pen l.path-index l.now l.next l.kind l.pen
