use Rattle.plan_buffer.proofs.Texts.{text_rests, written_rests}
use Rattle.plan_buffer.proofs.laws.texts_rest_on_plans.Goals as goal

pub returns-clause-text : goal.returns-clause-text
returns-clause-text c = text_rests c.rests_on_a_window.ensures

pub returns-clause-written : goal.returns-clause-written
returns-clause-written c = written_rests c.rests_on_a_window.ensures
