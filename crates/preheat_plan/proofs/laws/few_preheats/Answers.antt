use Rattle.preheat_plan.proofs.Fresh.{two, sixteen}
use Rattle.preheat_plan.proofs.laws.few_preheats.Goals as goal

pub returns-clause-two : goal.returns-clause-two
returns-clause-two c = two

pub returns-clause-sixteen : goal.returns-clause-sixteen
returns-clause-sixteen c = sixteen
