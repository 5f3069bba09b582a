use Rattle.preheat_plan.proofs.Law.{law_two}
use Rattle.preheat_plan.proofs.laws.rests_on_a_window.Goals as goal

pub returns : goal.returns
returns c = law_two
