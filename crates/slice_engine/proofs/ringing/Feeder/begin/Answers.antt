use Rattle.std.proofs.Common.{◌∙◌, ap, sym, subst}
use Rattle.plan_types.specs.Jobs.{JobValue}
use Rattle.gcode_write.specs.Ends.{header_of, start_of}
use Rattle.plan_buffer.specs.Streams.{Streamed}
use Rattle.slice_engine.specs.Inner.Ringing.{HasFed}
use Rattle.slice_engine.proofs.Streams.{none_fed}
use Rattle.slice_engine.proofs.Rings.{fed_none}
use Rattle.slice_engine.proofs.ringing.Feeder.begin.Goals as goal

pub invariant_of-result : goal.invariant_of-result
invariant_of-result g c =
    let output = g.S.Sink.output in
    let job = c.args.job.now in
    let name = c.args.name in
    let before = output c.args.sink in
    let began = none_fed output job name before c.in-Ok.writer.pen c.in-Ok.ensures.ok c.in-Ok.ensures.failed c.in-Ok.ensures.bytes in
    let stream = subst (λ (j : JobValue). Streamed output name (header_of j) before c.in-Ok.writer.pen) (sym c.in-Ok.ensures.job) began in
    let none = c.make.ensures.accepted name before stream (c.in-Ok.ensures.progress ∙ ap start_of (sym c.in-Ok.ensures.job)) in
    let fed = fed_none output job name c.args.sink c.make.result (ap (λ b. b.job) c.make.ensures.value ∙ c.in-Ok.ensures.job) none in
    subst (λ n. HasFed output job n c.of-before.result.value c.make.result) (sym c.of-called.ensures) (subst (λ s. HasFed output job name s c.make.result) (sym c.of-before.ensures) fed)

pub returns-in-Ok-clause-fed : goal.returns-in-Ok-clause-fed
returns-in-Ok-clause-fed g c =
    let output = g.S.Sink.output in
    let job = c.args.job.now in
    let name = c.args.name in
    let before = output c.args.sink in
    let began = none_fed output job name before c.in-Ok.writer.pen c.in-Ok.ensures.ok c.in-Ok.ensures.failed c.in-Ok.ensures.bytes in
    let stream = subst (λ (j : JobValue). Streamed output name (header_of j) before c.in-Ok.writer.pen) (sym c.in-Ok.ensures.job) began in
    (ap (λ b. b.pen.failed) c.make.ensures.value ∙ c.in-Ok.ensures.failed, c.make.ensures.accepted name before stream (c.in-Ok.ensures.progress ∙ ap start_of (sym c.in-Ok.ensures.job)), c.new.ensures job)
