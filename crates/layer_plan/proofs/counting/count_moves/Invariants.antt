use Rattle.std.proofs.Common.{◌≡◌, ◌^◌, min, take}
use Rattle.plan_types.specs.Plans.{moves_in}
use Rattle.layer_plan.proofs.counting.count_moves.Given as goal

abbrev pub invariant-loop-plan : goal.invariant-loop-plan
invariant-loop-plan l = l.count ≡ min (moves_in (take l.plan-index l.plans)) (2 ^ 40)
