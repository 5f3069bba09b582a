use Rattle.preheat_plan.proofs.Few.{eight}
use Rattle.preheat_plan.proofs.laws.eight_at_most.Goals as goal

pub returns : goal.returns
returns c = eight
