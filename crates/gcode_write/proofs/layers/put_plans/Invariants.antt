use Rattle.gcode_write.proofs.Walks.{WrotePlans}
use Rattle.gcode_write.proofs.layers.put_plans.Given as goal

abbrev pub invariant-loop-plan : goal.invariant-loop-plan
invariant-loop-plan g l = WrotePlans g.S.Sink.output l.extruders l.layer l.initial.now l.plans l.initial.pen l.plan-index l.now l.next l.pen
