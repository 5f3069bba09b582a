use Rattle.std.proofs.Common.{◌∙◌, ap, sym, subst}
use Rattle.plan_types.specs.Jobs.{JobValue}
use Rattle.gcode_write.specs.Ends.{header_of, start_of}
use Rattle.plan_buffer.specs.Streams.{Streamed}
use Rattle.slice_engine.specs.Inner.Feeding.{Flushed}
use Rattle.slice_engine.proofs.Streams.{still_end, unbegun, none_fed, bytes_at_end, wrote_fed}
use Rattle.slice_engine.proofs.writing.write_file.Goals as goal

pub returns-in-Err-clause-wrote : goal.returns-in-Err-clause-wrote
returns-in-Err-clause-wrote g c = unbegun c.args.job.now c.args.name (g.S.Sink.output c.args.sink) (g.S.Sink.output c.in-Err.unbegun.sink) c.writes_a_front.ensures.front c.in-Err.ensures.err

pub returns-in-Ok-clause-wrote : goal.returns-in-Ok-clause-wrote
returns-in-Ok-clause-wrote g c =
    let output = g.S.Sink.output in
    let job = c.args.job.now in
    let name = c.args.name in
    let before = output c.args.sink in
    let began = none_fed output job name before c.in-Ok.writer.pen c.in-Ok.ensures.ok c.in-Ok.ensures.failed c.in-Ok.ensures.bytes in
    let stream = subst (λ (j : JobValue). Streamed output name (header_of j) before c.in-Ok.writer.pen) (sym c.in-Ok.ensures.job) began in
    let none = c.make-buffer.ensures.accepted name before stream (c.in-Ok.ensures.progress ∙ ap start_of (sym c.in-Ok.ensures.job)) in
    let fed = c.feed-fed.ensures.fed name before none in
    still_end output job name before c.feed-fed.new.buffer c.feed-fed.result c.flush-wrote.result c.into_sink.result c.texts_rest_on_plans.ensures.written c.writes_a_front.ensures.front c.feed-fed.ensures.job fed
    (λ stop is. let s = c.flush-wrote.ensures.stopped stop is in (s.0, c.into_sink.ensures ∙ ap (λ b. b.pen.sink) s.1))
    (λ past is accepted. subst (λ sink. Flushed output c.feed-fed.new.buffer.job past c.flush-wrote.result sink) (sym c.into_sink.ensures) (c.flush-wrote.ensures.done past is accepted))

pub returns-in-Ok-clause-bytes : goal.returns-in-Ok-clause-bytes
returns-in-Ok-clause-bytes g c = λ ok.
    let output = g.S.Sink.output in
    let job = c.args.job.now in
    let name = c.args.name in
    let before = output c.args.sink in
    let began = none_fed output job name before c.in-Ok.writer.pen c.in-Ok.ensures.ok c.in-Ok.ensures.failed c.in-Ok.ensures.bytes in
    let stream = subst (λ (j : JobValue). Streamed output name (header_of j) before c.in-Ok.writer.pen) (sym c.in-Ok.ensures.job) began in
    let none = c.make-buffer.ensures.accepted name before stream (c.in-Ok.ensures.progress ∙ ap start_of (sym c.in-Ok.ensures.job)) in
    let fed = c.feed-fed.ensures.fed name before none in
    c.bytes.ensures ∙ bytes_at_end output job name before c.feed-fed.new.buffer c.feed-fed.result c.flush-wrote.result c.flush-wrote.new.buffer.pen.bytes c.feed-fed.ensures.job fed
    (λ stop is. (c.flush-wrote.ensures.stopped stop is).0) c.flush-wrote.ensures.bytes ok

pub returns-in-Ok-clause-spent : goal.returns-in-Ok-clause-spent
returns-in-Ok-clause-spent g c = λ ok.
    c.feed-fed.ensures.spent (wrote_fed c.feed-fed.result c.flush-wrote.result (λ stop is. (c.flush-wrote.ensures.stopped stop is).0) ok)

pub feed-fed-requires-clause-unspent : goal.feed-fed-requires-clause-unspent
feed-fed-requires-clause-unspent g c = c.new-spent.ensures c.args.job.now
