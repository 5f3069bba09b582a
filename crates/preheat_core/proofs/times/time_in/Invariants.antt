use Rattle.std.proofs.Common.{◌≡◌, drop, get_or}
use Rattle.preheat_core.specs.Times.{times_in}
use Rattle.preheat_core.proofs.times.time_in.Given as goal

abbrev pub invariant-loop-x : goal.invariant-loop-x
invariant-loop-x l = get_or (times_in (drop l.x-index l.plans)) l.rest 0 ≡ get_or (times_in l.plans) l.path 0
