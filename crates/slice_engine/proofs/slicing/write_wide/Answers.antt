use denote.Param.Send.{sendable}
use Rattle.std.proofs.Common.{rules, ◌≡◌, ◌<◌, ◌^◌, inl, sym, ap, subst, ◌∙◌, length}
use Rattle.ring_core.specs.Core.{IsRun}
use Rattle.slice_engine.proofs.Streams.{unbegun}
use Rattle.slice_engine.proofs.Crossing.{plans_sync, feeder_send}
use Rattle.slice_engine.proofs.RingEnds.{ended_wide, spent_wide, unmade_wide}
use Rattle.slice_engine.proofs.slicing.write_wide.Goals as goal

pub returns-in-Err-clause-wrote : goal.returns-in-Err-clause-wrote
returns-in-Err-clause-wrote g c = (record { run = subst (λ (es : _). IsRun (length c.args.job.now.layers) c.args.workers es) (sym c.new.ensures.items) tt; cause = inl (c.new.ensures.items, c.in-Err.ensures.err.content) }, unbegun c.args.job.now c.args.name (g.S.Sink.output c.args.sink) (g.S.Sink.output c.in-Err.unbegun.sink) c.writes_a_front.ensures.front c.in-Err.ensures.err)

pub returns-in-Ok-run_ring-clause-wrote : goal.returns-in-Ok-run_ring-clause-wrote
returns-in-Ok-run_ring-clause-wrote g c =
    let output = g.S.Sink.output in
    let f = c.in-Ok-run_ring.ended.consumer in
    let waits = c.in-Ok-run_ring.ensures.consumer in
    let job_is : f.job ≡ c.args.job.now = ap (λ n. n.job) waits.named in
    let name_is : f.name ≡ c.args.name = ap (λ n. n.name) waits.named ∙ c.of.ensures in
    let before_is : f.before ≡ c.args.sink = ap (λ n. n.before) waits.named ∙ c.of-2.ensures in
    let quiet = (c.in-Ok.ensures.fed.1.written.stream.whole c.in-Ok.ensures.fed.0).quiet in
    let begun = c.in-Ok.ensures.begun in
    let fits : (output c.args.sink).faults < 2 ^ 64 = search rules in
    let all : c.len-layers.result ≡ length c.args.job.now.layers = search rules in
    ended_wide output f c.args.job.now c.args.name c.args.sink c.args.workers _ _ c.in-Ok-run_ring.ended.events.items c.end_ring.result.journal.items c.in-Ok-run_ring.ended.halted
    c.end_ring.result.wrote c.end_ring.result.sink c.texts_rest_on_plans.ensures.written c.writes_a_front.ensures.front c.whole_runs_have_each_layer_once.ensures job_is name_is before_is c.end_ring.ensures.journal
    (record {
      all = all ∙ ap (λ j. length j.layers) (sym job_is);
      fits = subst (λ b. (output b).faults < 2 ^ 64) (sym before_is) fits;
      start_is = quiet ∙ ap (λ b. (output b).faults) (sym before_is);
      fed = c.end_ring.ensures.fed;
      run = c.in-Ok-run_ring.ensures.run;
      halted_is = c.in-Ok-run_ring.ensures.halted;
      free = c.in-Ok-run_ring.ensures.free;
      taken = c.in-Ok-run_ring.ensures.taken;
      write = waits.write;
      kept = c.in-Ok-run_ring.ensures.kept;
      whole = c.in-Ok-run_ring.ensures.fed;
      stopped = c.end_ring.ensures.stopped;
      done = c.end_ring.ensures.done;
    })

pub returns-clause-wrote : goal.returns-clause-wrote
returns-clause-wrote g c =
    let output = g.S.Sink.output in
    let f = c.in-Err-run_ring.field-0.consumer in
    let unmade = c.in-Err-run_ring.ensures.unmade in
    let job_is : f.job ≡ c.args.job.now = ap (λ n. n.job) unmade.0 in
    let name_is : f.name ≡ c.args.name = ap (λ n. n.name) unmade.0 ∙ c.of.ensures in
    let before_is : f.before ≡ c.args.sink = ap (λ n. n.before) unmade.0 ∙ c.of-2.ensures in
    unmade_wide output f c.args.job.now c.args.name c.args.sink c.args.workers c.new-in-Err-run_ring.result.items c.into_sink.result c.texts_rest_on_plans.ensures.written job_is name_is before_is
    c.new-in-Err-run_ring.ensures.items (c.into_sink.ensures ∙ ap (λ b. b.pen.sink) c.into_parts-buffer.ensures.buffer) (sym (ap (λ b. b.job) c.into_parts-buffer.ensures.buffer) ∙ c.into_parts-buffer.ensures.fed.job_is) c.writes_a_front.ensures.front unmade.2

pub returns-in-Ok-run_ring-clause-spent : goal.returns-in-Ok-run_ring-clause-spent
returns-in-Ok-run_ring-clause-spent g c = λ ok.
    let f = c.in-Ok-run_ring.ended.consumer in
    let waits = c.in-Ok-run_ring.ensures.consumer in
    let job_is : f.job ≡ c.args.job.now = ap (λ n. n.job) waits.named in
    let all : c.len-layers.result ≡ length c.args.job.now.layers = search rules in
    spent_wide g.S.Sink.output f c.args.job.now _ c.in-Ok-run_ring.ended.halted c.end_ring.result.wrote c.end_ring.result.spent job_is c.end_ring.ensures.spent all
    c.in-Ok-run_ring.ensures.fed (λ stop is. (c.end_ring.ensures.stopped stop is).0) ok

pub run_ring-requires-send-P : goal.run_ring-requires-send-P
run_ring-requires-send-P g c κs within = search (sendable, plans_sync) depth 20

pub run_ring-requires-send-C : goal.run_ring-requires-send-C
run_ring-requires-send-C g c κs within = search (sendable, feeder_send) depth 20

pub run_ring-requires-sync-P : goal.run_ring-requires-sync-P
run_ring-requires-sync-P g c κs within = search (sendable, plans_sync) depth 20
