use Rattle.std.proofs.Common.{arith}
use Rattle.preheat_core.proofs.Added.{sum_last, sum_none}
use Rattle.preheat_core.proofs.times.layer_time.Goals as goal

pub returns-then-n-eq0 : goal.returns-then-n-eq0
returns-then-n-eq0 c = sum_none c.args.layer.now c.path_count-n.result c.path_count-n.ensures c.if-n-eq0.true

pub returns : goal.returns
returns c = sum_last c.args.layer.now c.path_count-n.result c.before_at-before.result c.time_at.result c.path_count-n.ensures (omega (arith, c.if-n-eq0.false)) c.before_at-before.ensures c.time_at.ensures.exact
