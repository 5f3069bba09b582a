use Rattle.std.proofs.Common.{length, arith}
use Rattle.preheat_plan.specs.Past.{rules_of}
use Rattle.plan_buffer.proofs.Texts.{text_next, whole_text}
use Rattle.plan_buffer.proofs.laws.texts_add_up.Goals as goal

pub returns-clause-next : goal.returns-clause-next
returns-clause-next c = text_next

pub returns-clause-whole : goal.returns-clause-whole
returns-clause-whole c = λ job plans. whole_text job plans (length plans) (omega (arith, c.windows_follow.ensures.count (rules_of job) plans))
