use Rattle.preheat_plan.proofs.Fresh.{takes}
use Rattle.preheat_plan.proofs.LetsGo.{starts, lets_go, length-completed_of}
use Rattle.preheat_plan.proofs.Keeps.{taken-longer, taken-known}
use Rattle.preheat_plan.proofs.laws.windows_follow.Goals as goal

pub returns : goal.returns
returns c = record { start = starts; take = takes; let_go = lets_go; longer = taken-longer; known = taken-known; count = length-completed_of }
