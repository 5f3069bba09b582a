use Rattle.clip_core.proofs.Lone.{front-more}
use Rattle.clip_core.proofs.Tallies.{nothing}
use Rattle.clip_core.proofs.keeping.front_of.Goals as goal

pub rest-preserved : goal.rest-preserved
rest-preserved c = front-more c.args.second c.rest.i c.args.all.now nothing c.rest-test.true (c.is_of_operand.ensures c.if-is_of_operand.true) c.rest.invariant
