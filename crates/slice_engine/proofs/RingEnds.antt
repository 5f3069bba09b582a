-- What an output holds at the end of a ring.
use Rattle.std.proofs.Common.{ℕ, ◌≡◌, ◌≤◌, ◌<◌, ◌^◌, inl, inr, Bool, true, false, List, [], length, take, Option, Some, None, Result, Ok, Err, refl, sym, ap, subst, ◌∙◌, arith}
use Rattle.std.proofs.Math.Seq.{take-length}
use Rattle.slice_base.specs.Causes.{Rose, counted}
use Rattle.slice_base.specs.Shapes.{Bytes}
use Rattle.outside.specs.Holding.{GainedFront, emptied_of, filled_of}
use Rattle.outside.specs.Output.{Output}
use Rattle.plan_types.specs.Jobs.{JobValue}
use Rattle.ring_core.specs.declared.event.Event.{Event}
use Rattle.ring_core.specs.declared.event.Cause.{Cause}
use Rattle.ring_core.specs.declared.event.Cause.TheVariants as cause
use Rattle.ring_core.specs.Core.{IsRun, reached}
use Rattle.ring_core.specs.Laws.{backs, IsWhole}
use Rattle.gcode_write.specs.Writing.{Began}
use Rattle.plan_buffer.specs.Streams.{Streamed}
use Rattle.plan_buffer.specs.Accepted.{Past, HasAccepted, Finished, BrokeOff}
use Rattle.slice_engine.specs.declared.writing.Stop.{Stop}
use Rattle.slice_engine.specs.declared.writing.Stop.TheVariants.{Memory, Write}
use Rattle.print_totals.specs.Spending.{SpentValue, HasSpent}
use Rattle.slice_engine.specs.Files.{plans_of, job_file, job_text, BrokenOff, CutShort}
use Rattle.slice_engine.specs.Journals.{IsFullRun, RanOutOfMemory, CutShortWide}
use Rattle.slice_engine.specs.Inner.Feeding.{past_of, Flushed, fed_by}
use Rattle.slice_engine.specs.Inner.Ringing.{FeederValue, HasFed}
use Rattle.slice_engine.specs.Inner.Slicing.{WroteWide}
use Rattle.slice_engine.proofs.Streams.{RestsOnPlans, WritesFronts, streamed_at, front_of_file, holds, broken_off, broke_off_last, cut_short, file_of_all}
use Rattle.slice_engine.proofs.Spendings.{spent_all}

-- the law of ring_core that is used here, as its public function states it
abbrev pub WholeRuns : Type 0
WholeRuns = (n m : ℕ) (es : List Event) → IsRun n m es → (reached es).taken ≡ n → (reached es).holder ≡ None → (reached es).cause ≡ None → IsWhole n es

-- what is whole is a front
whole_front : (held : Option Bytes) (text : Bytes) (after : Option Bytes) → after ≡ filled_of held text → GainedFront (emptied_of held) text after
whole_front None text after e = record { taken = 0; within = omega arith; held = e }
whole_front (Some held) text after e = record { taken = length text; within = omega arith; held = e ∙ ap Some (sym (take-length text)) }

-- a count that rose and didn't change is the greatest
still_counted : (before after : ℕ) → before < 2 ^ 64 → after ≡ before → Rose before after → after ≡ counted before
still_counted before after fits same rose = omega (arith, fits, same, rose)

-- what a pen that hasn't failed holds, where its count of faults has risen as far as it can
broken_still : (job : JobValue) (name : Bytes) (k : ℕ) (before after : Output) → RestsOnPlans → WritesFronts → before.faults < 2 ^ 64 → Rose before.faults after.faults → Began name (job_text job k) before after → BrokenOff name (job_file job) before after
broken_still job name k before after rests fronts fits rose b = record {
  content = holds after.begun (job_file job) before after b.begun (front_of_file job k (emptied_of before.content) after.content rests fronts (whole_front before.content (job_text job k) after.content b.content));
  named = b.named;
  begins = b.begins;
  ends = inl b.ends;
  failed_once = still_counted before.faults after.faults fits b.quiet rose;
}

-- what is written, whether the pen failed or not
broken_case : {S : Type 0} (output : S → Output) (f : FeederValue S) (failed : Bool) → f.buffer.pen.failed ≡ failed → RestsOnPlans → WritesFronts → (output f.before).faults < 2 ^ 64 → Rose (output f.before).faults (output f.buffer.pen.sink).faults
    → (fed : HasFed output f.job f.name f.before f.buffer) → Streamed output f.name (job_text f.job fed.count) (output f.before) f.buffer.pen → BrokenOff f.name (job_file f.job) (output f.before) (output f.buffer.pen.sink)
broken_case output f true is rests fronts fits rose fed s = broken_off f.job f.name fed.count f.buffer.pen.bytes (output f.before) (output f.buffer.pen.sink) rests fronts (s.broken is)
broken_case output f false is rests fronts fits rose fed s = broken_still f.job f.name fed.count (output f.before) (output f.buffer.pen.sink) rests fronts fits rose (s.whole is)

short_case : {S : Type 0} (output : S → Output) (f : FeederValue S) (failed : Bool) (journal : List Event) → f.buffer.pen.failed ≡ failed → RestsOnPlans → WritesFronts
    → (fed : HasFed output f.job f.name f.before f.buffer) → Streamed output f.name (job_text f.job fed.count) (output f.before) f.buffer.pen
    → ((Rose (output f.before).faults (output f.buffer.pen.sink).faults → ⊥) → CutShort f.name f.job (length (backs journal)) (output f.before) (output f.buffer.pen.sink))
    → CutShortWide f.name f.job journal (output f.before) (output f.buffer.pen.sink)
short_case output f true journal is rests fronts fed s exact =
    let b = s.broken is in
    record {
      front = front_of_file f.job fed.count (emptied_of (output f.before).content) (output f.buffer.pen.sink).content rests fronts b.front;
      named = b.named;
      begun = b.begun;
      begins = b.begins;
      ends = b.ends;
      faults = inr b.failed_once;
      exact = exact;
    }
short_case output f false journal is rests fronts fed s exact =
    let b = s.whole is in
    record {
      front = front_of_file f.job fed.count (emptied_of (output f.before).content) (output f.buffer.pen.sink).content rests fronts
          (whole_front (output f.before).content (job_text f.job fed.count) (output f.buffer.pen.sink).content b.content);
      named = b.named;
      begun = b.begun;
      begins = b.begins;
      ends = b.ends;
      faults = inl b.quiet;
      exact = exact;
    }

-- where a feeder is, once k layers were fed
abbrev pub IsAt : {S : Type 0} → (S → Output) → FeederValue S → ℕ → Type 0
IsAt output f k = k ≤ length f.job.layers → (f.buffer.pen.failed ≡ false) × HasAccepted output f.buffer (past_of f.job f.name (output f.before) k) × HasSpent f.job (take k (plans_of f.job)) f.spent

short_at : {S : Type 0} (output : S → Output) (f : FeederValue S) (k : ℕ) → RestsOnPlans → f.buffer.job ≡ f.job → k ≤ length f.job.layers → IsAt output f k → CutShort f.name f.job k (output f.before) (output f.buffer.pen.sink)
short_at output f k rests same few at =
    let here = at few in
    let s = streamed_at output f.job f.name (output f.before) k f.buffer rests same few here.1 in
    cut_short f.job f.name k (output f.before) (output f.buffer.pen.sink) few (s.whole here.0)

-- all was fed, and the buffer flushed
all_fed : {S : Type 0} (output : S → Output) (f : FeederValue S) (workers n : ℕ) (events : List Event) (wrote : Result (Unit {0}) Stop) (sink : S) → n ≡ length f.job.layers → IsFullRun n workers events
    → Flushed output f.job (past_of f.job f.name (output f.before) n) wrote sink → WroteWide wrote events f.job workers f.name (output f.before) (output sink)
all_fed output f workers n events (Ok t) sink all full flushed =
    (subst (λ (k : ℕ). IsFullRun k workers events) all full, subst (λ (file : Bytes). Finished f.name file (output f.before) (output sink)) (file_of_all f.job n all) flushed)
all_fed output f workers n events (Err Write) sink all full flushed =
    (record { run = subst (λ (k : ℕ). IsRun k workers events) all full.run; cause = inr (inr (subst (λ (k : ℕ). IsFullRun k workers events) all full)) }, broke_off_last f.job f.name (output f.before) (output sink) (subst (λ (file : Bytes). BrokeOff f.name file (output f.before) (output sink)) (file_of_all f.job n all) flushed))
all_fed output f workers n events (Err Memory) sink all full flushed = absurd flushed

-- what a ring left: the run, the feeder, and what became of its sink
pub record RingEnd {S : Type 0} (output : S → Output) (f : FeederValue S) (workers n start : ℕ) (events : List Event) (halted : Option Cause) (wrote : Result (Unit {0}) Stop) (sink : S) : Type 0 where
  pub all : n ≡ length f.job.layers
  pub fits : (output f.before).faults < 2 ^ 64
  pub start_is : start ≡ (output f.before).faults
  pub fed : HasFed output f.job f.name f.before f.buffer
  pub run : IsRun n workers events
  pub halted_is : halted ≡ (reached events).cause
  pub free : (reached events).holder ≡ None
  pub taken : halted ≡ None → (reached events).taken ≡ n
  pub write : (k : ℕ) → (reached events).cause ≡ Some (cause.Write k) → ((output f.buffer.pen.sink).faults ≡ k) × Rose start k
  pub kept : (Rose start (output f.buffer.pen.sink).faults → ⊥) → (length (backs events) ≤ n) × IsAt output f (length (backs events))
  pub whole : halted ≡ None → IsAt output f n
  pub stopped : (stop : Stop) → fed_by halted ≡ Err stop → (wrote ≡ Err stop) × (sink ≡ f.buffer.pen.sink)
  pub done : (past : Past) → fed_by halted ≡ Ok tt → HasAccepted output f.buffer past → Flushed output f.buffer.job past wrote sink

stop_wide : {S : Type 0} (output : S → Output) (f : FeederValue S) (workers n : ℕ) (events : List Event) (stop : Stop) (wrote : Result (Unit {0}) Stop) (sink : S) → n ≡ length f.job.layers → (wrote ≡ Err stop) × (sink ≡ f.buffer.pen.sink)
    → WroteWide (Err stop) events f.job workers f.name (output f.before) (output f.buffer.pen.sink) → WroteWide wrote events f.job workers f.name (output f.before) (output sink)
stop_wide output f workers n events stop wrote sink all is h =
    subst (λ (w : Result (Unit {0}) Stop). WroteWide w events f.job workers f.name (output f.before) (output sink)) (sym is.0)
    (subst (λ (s : _). WroteWide (Err stop) events f.job workers f.name (output f.before) (output s)) (sym is.1) h)

ended_case : {S : Type 0} (output : S → Output) (f : FeederValue S) (workers n start : ℕ) (events : List Event) (halted : Option Cause) (wrote : Result (Unit {0}) Stop) (sink : S) → RestsOnPlans → WritesFronts → WholeRuns
    → RingEnd output f workers n start events halted wrote sink → WroteWide wrote events f.job workers f.name (output f.before) (output sink)
ended_case output f workers n start events None wrote sink rests fronts wholes e =
    let calm : (reached events).cause ≡ None = sym e.halted_is in
    let full : IsFullRun n workers events = record { run = e.run; taken = e.taken refl; free = e.free; calm = calm; whole = wholes n workers events e.run (e.taken refl) e.free calm } in
    let below : n ≤ length f.job.layers = omega (arith, e.all) in
    let accepted = (e.whole refl below).1 in
    let flushed = e.done (past_of f.job f.name (output f.before) n) refl accepted in
    all_fed output f workers n events wrote sink e.all full (subst (λ (j : JobValue). Flushed output j (past_of f.job f.name (output f.before) n) wrote sink) e.fed.job_is flushed)
ended_case output f workers n start events (Some cause.Memory) wrote sink rests fronts wholes e =
    let s = streamed_at output f.job f.name (output f.before) e.fed.count f.buffer rests e.fed.job_is e.fed.few e.fed.accepted in
    let exact : (Rose (output f.before).faults (output f.buffer.pen.sink).faults → ⊥) → CutShort f.name f.job (length (backs events)) (output f.before) (output f.buffer.pen.sink) =
    λ quiet. let kept = e.kept (subst (λ (k : ℕ). Rose k (output f.buffer.pen.sink).faults → ⊥) (sym e.start_is) quiet) in
    let few : length (backs events) ≤ length f.job.layers = subst (λ (k : ℕ). length (backs events) ≤ k) e.all kept.0 in
    short_at output f (length (backs events)) rests e.fed.job_is few kept.1 in
    stop_wide output f workers n events Memory wrote sink e.all (e.stopped Memory refl)
    (record { run = subst (λ (k : ℕ). IsRun k workers events) e.all e.run; cause = inr (sym e.halted_is) }, short_case output f f.buffer.pen.failed events refl rests fronts e.fed s exact)
ended_case output f workers n start events (Some (cause.Write k)) wrote sink rests fronts wholes e =
    let s = streamed_at output f.job f.name (output f.before) e.fed.count f.buffer rests e.fed.job_is e.fed.few e.fed.accepted in
    let write = e.write k (sym e.halted_is) in
    let rose : Rose (output f.before).faults (output f.buffer.pen.sink).faults =
    subst (λ (a : ℕ). Rose a (output f.buffer.pen.sink).faults) e.start_is (subst (λ (b : ℕ). Rose start b) (sym write.0) write.1) in
    stop_wide output f workers n events Write wrote sink e.all (e.stopped Write refl) (
      record {
        run = subst (λ (m : ℕ). IsRun m workers events) e.all e.run;
        cause = inr (inl (subst (λ (m : ℕ). (reached events).cause ≡ Some (cause.Write m)) (sym write.0) (sym e.halted_is)));
      },
      broken_case output f f.buffer.pen.failed refl rests fronts e.fits rose e.fed s,
    )

-- the end of a ring, by the names of its parts
pub ended_wide : {S : Type 0} (output : S → Output) (f : FeederValue S) (job : JobValue) (name : Bytes) (before : S) (workers n start : ℕ) (events journal : List Event) (halted : Option Cause) (wrote : Result (Unit {0}) Stop) (sink : S)
    → RestsOnPlans → WritesFronts → WholeRuns → f.job ≡ job → f.name ≡ name → f.before ≡ before → journal ≡ events
    → RingEnd output f workers n start events halted wrote sink → WroteWide wrote journal job workers name (output before) (output sink)
ended_wide output f job name before workers n start events journal halted wrote sink rests fronts wholes job_is name_is before_is journal_is e =
    let h0 = ended_case output f workers n start events halted wrote sink rests fronts wholes e in
    let h1 : WroteWide wrote events job workers f.name (output f.before) (output sink) = subst (λ (j : JobValue). WroteWide wrote events j workers f.name (output f.before) (output sink)) job_is h0 in
    let h2 : WroteWide wrote events job workers name (output f.before) (output sink) = subst (λ (m : Bytes). WroteWide wrote events job workers m (output f.before) (output sink)) name_is h1 in
    let h3 : WroteWide wrote events job workers name (output before) (output sink) = subst (λ (b : _). WroteWide wrote events job workers name (output b) (output sink)) before_is h2 in
    subst (λ (es : List Event). WroteWide wrote es job workers name (output before) (output sink)) (sym journal_is) h3

-- a ring that was never made: nothing was planned
pub unmade_wide : {S : Type 0} (output : S → Output) (f : FeederValue S) (job : JobValue) (name : Bytes) (before : S) (workers : ℕ) (journal : List Event) (sink : S)
    → RestsOnPlans → f.job ≡ job → f.name ≡ name → f.before ≡ before → journal ≡ [] → sink ≡ f.buffer.pen.sink → f.buffer.job ≡ f.job → WritesFronts → IsAt output f 0
    → RanOutOfMemory (length job.layers) workers journal × CutShortWide name job journal (output before) (output sink)
unmade_wide output f job name before workers journal sink rests job_is name_is before_is journal_is sink_is same fronts at =
    let none : 0 ≤ length f.job.layers = omega arith in
    let c : CutShort f.name f.job 0 (output f.before) (output f.buffer.pen.sink) = short_at output f 0 rests same none at in
    let short : CutShortWide f.name f.job [] (output f.before) (output f.buffer.pen.sink) = record {
      front = front_of_file f.job 0 (emptied_of (output f.before).content) (output f.buffer.pen.sink).content rests fronts
          (whole_front (output f.before).content (job_text f.job 0) (output f.buffer.pen.sink).content c.content);
      named = c.named;
      begun = c.begun;
      begins = c.begins;
      ends = c.ends;
      faults = inl c.quiet;
      exact = λ quiet. c;
    } in
    let h1 : CutShortWide f.name job [] (output f.before) (output f.buffer.pen.sink) = subst (λ (j : JobValue). CutShortWide f.name j [] (output f.before) (output f.buffer.pen.sink)) job_is short in
    let h2 : CutShortWide name job [] (output f.before) (output f.buffer.pen.sink) = subst (λ (m : Bytes). CutShortWide m job [] (output f.before) (output f.buffer.pen.sink)) name_is h1 in
    let h3 : CutShortWide name job [] (output before) (output f.buffer.pen.sink) = subst (λ (b : _). CutShortWide name job [] (output b) (output f.buffer.pen.sink)) before_is h2 in
    let h4 : CutShortWide name job [] (output before) (output sink) = subst (λ (s : _). CutShortWide name job [] (output before) (output s)) (sym sink_is) h3 in
    (record { run = subst (λ (es : List Event). IsRun (length job.layers) workers es) (sym journal_is) tt; cause = inl journal_is }, subst (λ (es : List Event). CutShortWide name job es (output before) (output sink)) (sym journal_is) h4)

not_ok : (stop : Stop) → ◌≡◌ {A = Result (Unit {0}) Stop} (Err stop) (Ok tt) → ⊥
not_ok stop e = cc

-- where the file was written, the sums are those of all plans
ended_spent : {S : Type 0} (output : S → Output) (f : FeederValue S) (n : ℕ) (halted : Option Cause) (wrote : Result (Unit {0}) Stop) → n ≡ length f.job.layers → (halted ≡ None → IsAt output f n)
    → ((stop : Stop) → fed_by halted ≡ Err stop → wrote ≡ Err stop) → wrote ≡ Ok tt → HasSpent f.job (plans_of f.job) f.spent
ended_spent output f n None wrote all whole stopped ok = spent_all f.job n f.spent all (whole refl (omega (arith, all))).2
ended_spent output f n (Some cause.Memory) wrote all whole stopped ok = absurd (not_ok Memory (sym (stopped Memory refl) ∙ ok))
ended_spent output f n (Some (cause.Write k)) wrote all whole stopped ok = absurd (not_ok Write (sym (stopped Write refl) ∙ ok))

-- the same, by the names of the parts
pub spent_wide : {S : Type 0} (output : S → Output) (f : FeederValue S) (job : JobValue) (n : ℕ) (halted : Option Cause) (wrote : Result (Unit {0}) Stop) (spent : SpentValue) → f.job ≡ job → spent ≡ f.spent → n ≡ length job.layers
    → (halted ≡ None → IsAt output f n) → ((stop : Stop) → fed_by halted ≡ Err stop → wrote ≡ Err stop) → wrote ≡ Ok tt → HasSpent job (plans_of job) spent
spent_wide output f job n halted wrote spent job_is spent_is all whole stopped ok =
    let h = ended_spent output f n halted wrote (all ∙ ap (λ (j : JobValue). length j.layers) (sym job_is)) whole stopped ok in
    subst (λ (s : SpentValue). HasSpent job (plans_of job) s) (sym spent_is) (subst (λ (j : JobValue). HasSpent j (plans_of j) f.spent) job_is h)
