use Rattle.std.proofs.Common.{arith}
use Rattle.preheat_core.proofs.Added.{number_small}
use Rattle.preheat_core.proofs.spots.number.Goals as goal

pub overflow_add-result : goal.overflow_add-result
overflow_add-result c =
    omega (arith, number_small c.args.window.now c.args.spot c.loop-slot.slot c.loop-slot.n c.requires.small c.requires.few c.requires.spot (omega (arith, c.loop-slot.auto.slot-end)) (omega (arith, c.loop-slot-test.false)) c.loop-slot.invariant.n)

pub returns-clause-small : goal.returns-clause-small
returns-clause-small c =
    omega (arith, c.from.ensures, number_small c.args.window.now c.args.spot c.loop-slot.slot c.loop-slot.n c.requires.small c.requires.few c.requires.spot (omega (arith, c.loop-slot.auto.slot-end)) (omega (arith, c.loop-slot-test.false)) c.loop-slot.invariant.n)
