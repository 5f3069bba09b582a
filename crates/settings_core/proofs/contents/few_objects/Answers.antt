use Rattle.std.proofs.Common.{◌∙◌, sym}
use Rattle.settings_core.proofs.FileLemmas.{few_objects-some, few_objects-many, few_objects-other}
use Rattle.settings_core.proofs.contents.few_objects.Goals as goal

pub returns-then-are_objects-clause-list : goal.returns-then-are_objects-clause-list
returns-then-are_objects-clause-list c = sym (few_objects-some c.args.most c.args.items.now c.if-items-most.false (sym c.are_objects.ensures ∙ c.if-are_objects.true))

pub returns-else-are_objects-clause-list : goal.returns-else-are_objects-clause-list
returns-else-are_objects-clause-list c = sym (few_objects-other c.args.most c.args.items.now c.if-items-most.false (sym c.are_objects.ensures ∙ c.if-are_objects.false))

pub returns-then-items-most-clause-list : goal.returns-then-items-most-clause-list
returns-then-items-most-clause-list c = sym (few_objects-many c.args.most c.args.items.now c.if-items-most.true)
