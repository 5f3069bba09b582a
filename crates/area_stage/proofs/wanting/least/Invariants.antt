use Rattle.std.proofs.Common.{◌≡◌, drop, get_or}
use Rattle.std.specs.List.{filter}
use Rattle.plan_types.specs.Extruders.{has_bit}
use Rattle.area_stage.specs.Extruders.{least_of}
use Rattle.area_stage.proofs.wanting.least.Given as goal

abbrev pub invariant-loop-e : goal.invariant-loop-e
invariant-loop-e l = get_or (filter (has_bit l.bits) (drop l.e-index l.e-items)) 0 0 ≡ least_of l.bits
