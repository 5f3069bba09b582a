use Rattle.std.proofs.Common.{◌≡◌, map, take}
use Rattle.preheat_plan.specs.Held.{use_of}
use Rattle.plan_store.proofs.window.uses_of.Given as goal

abbrev pub invariant-loop-x : goal.invariant-loop-x
invariant-loop-x l = l.uses.items ≡ map use_of (take l.x-index l.plans)
