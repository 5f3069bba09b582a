use Rattle.std.proofs.Common.{arith}
use Rattle.preheat_core.proofs.Halves.{elapsed_of-le}
use Rattle.preheat_core.proofs.placing.is_covering.Goals as goal

pub overflow_sub-here : goal.overflow_sub-here
overflow_sub-here c = omega (arith, elapsed_of-le c.args.window.now c.args.front c.args.at c.requires.order, c.elapsed.ensures.exact, c.elapsed-here.ensures.exact)

pub overflow_sub-result : goal.overflow_sub-result
overflow_sub-result c = omega (arith, elapsed_of-le c.args.window.now c.args.at c.args.start c.requires.start, c.elapsed-2.ensures.exact, c.elapsed-here.ensures.exact)
