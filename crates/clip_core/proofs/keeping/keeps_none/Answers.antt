use Rattle.std.proofs.Common.{◌≡◌, [], sym, subst}
use Rattle.clip_core.specs.declared.keeping.Operation.{Operation}
use Rattle.clip_core.specs.Keeping.{kept_of}
use Rattle.clip_core.proofs.Lone.{meet-first, meet-second, subtract-second}
use Rattle.clip_core.proofs.keeping.keeps_none.Goals as goal

pub returns-in-Subtract : goal.returns-in-Subtract
returns-in-Subtract c h = subst (λ (o : Operation). kept_of o c.args.all.now ≡ []) (sym c.in-Subtract.is) (subtract-second c.args.all.now (c.are_of_operand.ensures h))

pub returns-then-are_of_operand : goal.returns-then-are_of_operand
returns-then-are_of_operand c h = subst (λ (o : Operation). kept_of o c.args.all.now ≡ []) (sym c.in-Meet.is) (meet-second c.args.all.now (c.are_of_operand-in-Meet.ensures c.if-are_of_operand.true))

pub returns-else-are_of_operand : goal.returns-else-are_of_operand
returns-else-are_of_operand c h = subst (λ (o : Operation). kept_of o c.args.all.now ≡ []) (sym c.in-Meet.is) (meet-first c.args.all.now (c.are_of_operand-in-Meet-2.ensures h))
