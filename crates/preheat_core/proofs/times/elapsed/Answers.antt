use Rattle.std.proofs.Common.{◌∙◌}
use Rattle.std.specs.List.{sum}
use Rattle.preheat_core.specs.Times.{all_times, elapsed_of}
use Rattle.preheat_core.proofs.Added.{here_time, next_time, next_total}
use Rattle.preheat_core.proofs.times.elapsed.Goals as goal

pub returns-then-rest-n-clause-exact : goal.returns-then-rest-n-clause-exact
returns-then-rest-n-clause-exact c =
    let l = c.loop-l in
    let ws = c.args.window.now in
    here_time ws l.l-index c.l-item.result l.rest c.from-n.result c.before_at.result l.time (elapsed_of ws c.args.number) c.loop-l-test.true c.l-item.is (c.from-n.ensures ∙ c.path_count.ensures) c.if-rest-n.true c.before_at.ensures l.invariant.rest

pub loop-l-preserved : goal.loop-l-preserved
loop-l-preserved c =
    let l = c.loop-l in
    let ws = c.args.window.now in
    record {
      rest = next_time ws l.l-index c.l-item.result l.rest c.from-n.result c.layer_time-time.result l.time (elapsed_of ws c.args.number) c.loop-l-test.true c.l-item.is (c.from-n.ensures ∙ c.path_count.ensures) c.if-rest-n.false c.layer_time-time.ensures l.invariant.rest;
      whole = next_total ws l.l-index c.l-item.result c.layer_time-time.result l.time (sum (all_times ws)) c.loop-l-test.true c.l-item.is c.layer_time-time.ensures l.invariant.whole;
    }
