use Rattle.std.proofs.Common.{◌≡◌, drop, get_or}
use Rattle.preheat_core.specs.Inner.Befores.{befores_in}
use Rattle.preheat_core.proofs.times.before_in.Given as goal

abbrev pub invariant-loop-x : goal.invariant-loop-x
invariant-loop-x l = get_or (befores_in (drop l.x-index l.plans)) l.rest 0 ≡ get_or (befores_in l.plans) l.path 0
