use Rattle.clip_core.proofs.PassedBy.{strip-small}
use Rattle.clip_core.proofs.strips.strip_of.Goals as goal

pub returns-clause-small : goal.returns-clause-small
returns-clause-small c = strip-small c.above_least.result c.args.bits c.requires.bits_from c.above_least.ensures.small
