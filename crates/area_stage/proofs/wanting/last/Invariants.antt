use Rattle.std.proofs.Common.{◌≡◌, drop}
use Rattle.area_stage.specs.Extruders.{last_of}
use Rattle.area_stage.proofs.wanting.last.Given as goal

abbrev pub invariant-loop-e : goal.invariant-loop-e
invariant-loop-e l = last_of l.last (drop l.e-index l.order) ≡ last_of l.before l.order
