use Rattle.preheat_plan.proofs.EachSwitch.{one_preheat, no_preheat, all_stand, stand_there}
use Rattle.preheat_plan.proofs.laws.each_switch_is_preheated.Goals as goal

pub returns-clause-switch : goal.returns-clause-switch
returns-clause-switch c = one_preheat

pub returns-clause-other : goal.returns-clause-other
returns-clause-other c = no_preheat

pub returns-clause-all : goal.returns-clause-all
returns-clause-all c = all_stand

pub returns-clause-stands : goal.returns-clause-stands
returns-clause-stands c = stand_there
