use Rattle.std.proofs.Common.{rules, arith, ◌≡◌, ◌≤◌, ◌<◌, ◌∙◌, ◌+◌, length, true}
use Rattle.slice_engine.proofs.Streams.{fed_more, fed_short, fed_broken, fed_all}
use Rattle.slice_engine.proofs.Spendings.{spent_next, spent_count, spent_all}
use Rattle.slice_engine.proofs.writing.feed.Goals as goal

pub add-requires-clause-room : goal.add-requires-clause-room
add-requires-clause-room g c =
    let below : c.layers.layer < length c.args.job.now.layers = search rules in
    let few : length c.args.job.now.layers ≤ 40000 = search rules in
    omega (arith, below, few, spent_count c.args.job.now c.layers.layer c.layers.spent (omega (arith, below)) c.layers.invariant.spent)

pub returns-in_default-clause-fed : goal.returns-in_default-clause-fed
returns-in_default-clause-fed g c = λ name before h.
    let below : c.layers.layer < length c.args.job.now.layers = search rules in
    fed_short g.S.Sink.output c.args.job.now name before c.layers.layer c.layers.buffer (omega (arith, below)) c.layers.invariant.unfailed (c.layers.invariant.accepted name before h)

pub returns-then-is_err-clause-fed : goal.returns-then-is_err-clause-fed
returns-then-is_err-clause-fed g c = λ name before h.
    let below : c.layers.layer < length c.args.job.now.layers = search rules in
    let failed : c.accept.new.self.pen.failed ≡ true = search rules in
    fed_broken g.S.Sink.output c.args.job.now name before (c.layers.layer + 1) c.accept.new.self (omega (arith, below)) failed
    (fed_more g.S.Sink.output c.args.job.now name before c.layers.layer c.in-Ok.plan c.layers.buffer c.accept.new.self below c.in-Ok.ensures.plan c.accept.ensures.accepted (c.layers.invariant.accepted name before h))

pub layers-preserved : goal.layers-preserved
layers-preserved g c = record {
  job = c.accept.ensures.job ∙ c.layers.invariant.job;
  taken = search rules;
  unfailed = search rules;
  spent =
      let below : c.layers.layer < length c.args.job.now.layers = search rules in
      spent_next c.args.job.now c.layers.layer c.in-Ok.plan c.layers.spent c.add.new.self below c.in-Ok.ensures.plan c.add.ensures c.layers.invariant.spent;
  accepted = λ name before h.
      let below : c.layers.layer < length c.args.job.now.layers = search rules in
      fed_more g.S.Sink.output c.args.job.now name before c.layers.layer c.in-Ok.plan c.layers.buffer c.accept.new.self below c.in-Ok.ensures.plan c.accept.ensures.accepted (c.layers.invariant.accepted name before h);
}

pub returns-clause-fed : goal.returns-clause-fed
returns-clause-fed g c = λ name before h.
    let all : c.layers.layer ≡ length c.args.job.now.layers = search rules in
    fed_all g.S.Sink.output c.args.job.now name before c.layers.layer c.layers.buffer all (c.layers.invariant.accepted name before h)

pub returns-clause-spent : goal.returns-clause-spent
returns-clause-spent g c = λ ok.
    let all : c.layers.layer ≡ length c.args.job.now.layers = search rules in
    spent_all c.args.job.now c.layers.layer c.layers.spent all c.layers.invariant.spent
