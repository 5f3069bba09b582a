-- What an output holds of a job's file once some of its plans were accepted.
use Rattle.std.proofs.Common.{ℕ, ◌≡◌, ◌≤◌, ◌+◌, ◌-◌, ◌<◌, inl, Bool, true, false, List, [], ◌∷◌, ◌++◌, length, take, Option, Result, Ok, Err, refl, sym, ap, subst, ◌∙◌, arith}
use Rattle.std.proofs.lemmas.List.FromFn.{length-map-range_with_len, take-map-range_with_len, map-range_with_len_more}
use Rattle.std.proofs.lemmas.List.{append-nil}
use Rattle.slice_base.specs.Causes.{counted}
use Rattle.slice_base.specs.Shapes.{Bytes}
use Rattle.outside.specs.declared.pens.Pen.{Pen}
use Rattle.outside.specs.Holding.{GainedFront, emptied_of}
use Rattle.outside.specs.Output.{Output}
use Rattle.outside.specs.Pens.{bytes_after}
use Rattle.plan_types.specs.Jobs.{JobValue}
use Rattle.plan_types.specs.Plans.{LayerPlanValue}
use Rattle.layer_plan.specs.Plan.{plan_of}
use Rattle.gcode_write.specs.Ends.{header_of}
use Rattle.gcode_write.specs.Writing.{Began, HoldsFront, Unbegan}
use Rattle.plan_buffer.specs.File.{file_of, text_up_to, written_of}
use Rattle.plan_buffer.specs.Streams.{Broken, Streamed}
use Rattle.plan_buffer.specs.Accepted.{Past, HasAccepted, Finished, BrokeOff}
use Rattle.plan_buffer.specs.Buffers.{BufferValue}
use Rattle.slice_engine.specs.declared.writing.Stop.{Stop}
use Rattle.slice_engine.specs.declared.writing.Stop.TheVariants.{Memory, Write}
use Rattle.slice_engine.specs.Files.{plans_of, job_file, job_text, BrokenOff, CutShort}
use Rattle.slice_engine.specs.Inner.Feeding.{past_of, Fed, Wrote, Flushed}

-- the laws of plan_buffer that are used here, as its public functions state them
abbrev pub RestsOnPlans : Type 0
RestsOnPlans = (job : JobValue) (k : ℕ) (plans : List LayerPlanValue) → written_of job plans k ≡ written_of job (take k plans) k

abbrev pub WritesFronts : Type 0
WritesFronts = (job : JobValue) (k : ℕ) (plans : List LayerPlanValue) (before now : Option Bytes) → GainedFront before (written_of job (take k plans) k) now → GainedFront before (file_of job plans) now

-- ---- the plans of a job

pub plan_count : (job : JobValue) → length (plans_of job) ≡ length job.layers
plan_count job = length-map-range_with_len (plan_of job) 0 (length job.layers)

pub take_count : (job : JobValue) (k : ℕ) → k ≤ length job.layers → length (take k (plans_of job)) ≡ k
take_count job k few = ap length (take-map-range_with_len (plan_of job) 0 (length job.layers) k few) ∙ length-map-range_with_len (plan_of job) 0 k

-- one plan more
pub take_more : (job : JobValue) (k : ℕ) → k < length job.layers → take k (plans_of job) ++ plan_of job k ∷ [] ≡ take (k + 1) (plans_of job)
take_more job k below =
    ap (λ (ps : List LayerPlanValue). ps ++ plan_of job k ∷ []) (take-map-range_with_len (plan_of job) 0 (length job.layers) k (omega arith))
    ∙ sym (map-range_with_len_more (plan_of job) 0 k k (omega arith))
    ∙ sym (take-map-range_with_len (plan_of job) 0 (length job.layers) (k + 1) (omega arith))

-- all plans
pub take_all : (job : JobValue) (k : ℕ) → k ≡ length job.layers → take k (plans_of job) ≡ plans_of job
take_all job k all = subst (λ (n : ℕ). take n (plans_of job) ≡ plans_of job) (sym all) (take-map-range_with_len (plan_of job) 0 (length job.layers) (length job.layers) (omega arith))

-- ---- streams

-- what a buffer wrote that accepted k plans
pub streamed_at : {S : Type 0} (output : S → Output) (job : JobValue) (name : Bytes) (before : Output) (k : ℕ) (buffer : BufferValue S) → RestsOnPlans → buffer.job ≡ job → k ≤ length job.layers
    → HasAccepted output buffer (past_of job name before k) → Streamed output name (job_text job k) before buffer.pen
unfolding job_text
streamed_at {S} output job name before k buffer rests same few accepted =
    let plans = take k (plans_of job) in
    let stream = accepted.written.stream in
    let by_job : Streamed output name (text_up_to job plans (length plans - job.settings.preheat_window_layers)) before buffer.pen =
    subst (λ (j : JobValue). Streamed output name (text_up_to j plans (length plans - j.settings.preheat_window_layers)) before buffer.pen) same stream in
    let by_count : Streamed output name (written_of job plans k) before buffer.pen =
    subst (λ (n : ℕ). Streamed output name (text_up_to job plans (n - job.settings.preheat_window_layers)) before buffer.pen) (take_count job k few) by_job in
    subst (λ (text : Bytes). Streamed output name text before buffer.pen) (sym (rests job k (plans_of job))) by_count

-- memory ran out behind k plans
pub cut_short : (job : JobValue) (name : Bytes) (k : ℕ) (before after : Output) → k ≤ length job.layers → Began name (job_text job k) before after → CutShort name job k before after
cut_short job name k before after few b = record {
  few = few;
  content = b.content;
  named = b.named;
  begun = b.begun;
  begins = b.begins;
  ends = b.ends;
  quiet = b.quiet;
}

-- a front of what is written so far is one of the file
pub front_of_file : (job : JobValue) (k : ℕ) (before now : Option Bytes) → RestsOnPlans → WritesFronts → GainedFront before (job_text job k) now → GainedFront before (job_file job) now
unfolding job_text job_file
front_of_file job k before now rests fronts front =
    fronts job k (plans_of job) before now (subst (λ (text : Bytes). GainedFront before text now) (rests job k (plans_of job)) front)

pub holds : (begun : Bool) (file : Bytes) (before after : Output) → begun ≡ true → GainedFront (emptied_of before.content) file after.content → HoldsFront begun file before after
holds begun file before after is front = subst (λ (b : Bool). HoldsFront b file before after) (sym is) front

-- a put failed behind k plans
pub broken_off : (job : JobValue) (name : Bytes) (k count : ℕ) (before after : Output) → RestsOnPlans → WritesFronts → Broken name (job_text job k) before after count → BrokenOff name (job_file job) before after
broken_off job name k count before after rests fronts b = record {
  content = holds after.begun (job_file job) before after b.begun (front_of_file job k (emptied_of before.content) after.content rests fronts b.front);
  named = b.named;
  begins = b.begins;
  ends = inl b.ends;
  failed_once = b.failed_once;
}

-- the footer or the end failed
pub broke_off_last : (job : JobValue) (name : Bytes) (before after : Output) → BrokeOff name (job_file job) before after → BrokenOff name (job_file job) before after
broke_off_last job name before after b = record {
  content = holds after.begun (job_file job) before after b.begun b.front;
  named = b.named;
  begins = b.begins;
  ends = b.ends;
  failed_once = b.failed_once;
}

-- the header is what is written once no plan was accepted
header_is : (job : JobValue) → written_of job [] 0 ≡ header_of job
header_is job =
    let none : 0 - job.settings.preheat_window_layers ≡ 0 = omega arith in
    subst (λ (n : ℕ). text_up_to job [] n ≡ header_of job) (sym none) (append-nil (header_of job))

unbegun_content : (job : JobValue) (begun : Bool) (before after : Output) → WritesFronts → HoldsFront begun (header_of job) before after → HoldsFront begun (job_file job) before after
unfolding job_file
unbegun_content job true before after fronts h =
    fronts job 0 (plans_of job) (emptied_of before.content) after.content (subst (λ (text : Bytes). GainedFront (emptied_of before.content) text after.content) (sym (header_is job)) h)
unbegun_content job false before after fronts h = h

-- the begin or the header failed
pub unbegun : (job : JobValue) (name : Bytes) (before after : Output) → WritesFronts → Unbegan name (header_of job) before after → BrokenOff name (job_file job) before after
unbegun job name before after fronts u = record {
  content = unbegun_content job after.begun before after fronts u.content;
  named = u.named;
  begins = u.begins;
  ends = inl u.ends;
  failed_once = u.failed_once;
}

-- the file of all plans
pub file_of_all : (job : JobValue) (k : ℕ) → k ≡ length job.layers → file_of job (take k (plans_of job)) ≡ job_file job
unfolding job_file
file_of_all job k all = ap (file_of job) (take_all job k all)

-- ---- ends of a file in one thread

pub end_flushed : {S : Type 0} (output : S → Output) (job : JobValue) (name : Bytes) (before : Output) (k : ℕ) (result : Result (Unit {0}) Stop) (sink : S) → k ≡ length job.layers
    → Flushed output job (past_of job name before k) result sink → Wrote result job name before (output sink)
end_flushed output job name before k (Ok t) sink all f = subst (λ (file : Bytes). Finished name file before (output sink)) (file_of_all job k all) f
end_flushed output job name before k (Err Write) sink all f = broke_off_last job name before (output sink) (subst (λ (file : Bytes). BrokeOff name file before (output sink)) (file_of_all job k all) f)
end_flushed output job name before k (Err Memory) sink all f = absurd f

pub end_stopped : {S : Type 0} (output : S → Output) (job : JobValue) (name : Bytes) (before : Output) (buffer : BufferValue S) (stop : Stop) → RestsOnPlans → WritesFronts → buffer.job ≡ job
    → Fed output job name before (Err stop) buffer → Wrote (Err stop) job name before (output buffer.pen.sink)
end_stopped output job name before buffer Memory rests fronts same fed =
    let s = streamed_at output job name before fed.count buffer rests same fed.few fed.accepted in
    (fed.count, cut_short job name fed.count before (output buffer.pen.sink) fed.few (s.whole (fed.short refl)))
end_stopped output job name before buffer Write rests fronts same fed =
    let s = streamed_at output job name before fed.count buffer rests same fed.few fed.accepted in
    broken_off job name fed.count buffer.pen.bytes before (output buffer.pen.sink) rests fronts (s.broken (fed.broken refl))

-- ---- feeding

-- one plan more
pub fed_more : {S : Type 0} (output : S → Output) (job : JobValue) (name : Bytes) (before : Output) (k : ℕ) (plan : LayerPlanValue) (old new : BufferValue S) → k < length job.layers → plan ≡ plan_of job k
    → ((past : Past) → HasAccepted output old past → HasAccepted output new (record past { plans = past.plans ++ plan ∷ [] })) → HasAccepted output old (past_of job name before k) → HasAccepted output new (past_of job name before (k + 1))
fed_more output job name before k plan old new below is more h =
    let plans : take k (plans_of job) ++ plan ∷ [] ≡ take (k + 1) (plans_of job) = ap (λ (p : LayerPlanValue). take k (plans_of job) ++ p ∷ []) is ∙ take_more job k below in
    subst (λ (ps : List LayerPlanValue). HasAccepted output new (record { plans = ps; name = name; before = before })) plans (more (past_of job name before k) h)

not_ok : (stop : Stop) → ◌≡◌ {A = Result (Unit {0}) Stop} (Err stop) (Ok tt) → ⊥
not_ok stop e = cc

not_write : ◌≡◌ {A = Result (Unit {0}) Stop} (Err Memory) (Err Write) → ⊥
not_write e = cc

not_memory : ◌≡◌ {A = Result (Unit {0}) Stop} (Err Write) (Err Memory) → ⊥
not_memory e = cc

not_stopped : (stop : Stop) → ◌≡◌ {A = Result (Unit {0}) Stop} (Ok tt) (Err stop) → ⊥
not_stopped stop e = cc

-- memory ran out behind k plans
pub fed_short : {S : Type 0} (output : S → Output) (job : JobValue) (name : Bytes) (before : Output) (k : ℕ) (buffer : BufferValue S) → k ≤ length job.layers → buffer.pen.failed ≡ false
    → HasAccepted output buffer (past_of job name before k) → Fed output job name before (Err Memory) buffer
fed_short output job name before k buffer few unfailed h = record {
  count = k;
  few = few;
  accepted = h;
  all = λ e. absurd (not_ok Memory e);
  short = λ e. unfailed;
  broken = λ e. absurd (not_write e);
}

-- a write failed behind k plans
pub fed_broken : {S : Type 0} (output : S → Output) (job : JobValue) (name : Bytes) (before : Output) (k : ℕ) (buffer : BufferValue S) → k ≤ length job.layers → buffer.pen.failed ≡ true
    → HasAccepted output buffer (past_of job name before k) → Fed output job name before (Err Write) buffer
fed_broken output job name before k buffer few failed h = record {
  count = k;
  few = few;
  accepted = h;
  all = λ e. absurd (not_ok Write e);
  short = λ e. absurd (not_memory e);
  broken = λ e. failed;
}

-- all plans were accepted
pub fed_all : {S : Type 0} (output : S → Output) (job : JobValue) (name : Bytes) (before : Output) (k : ℕ) (buffer : BufferValue S) → k ≡ length job.layers
    → HasAccepted output buffer (past_of job name before k) → Fed output job name before (Ok tt) buffer
fed_all output job name before k buffer all h = record {
  count = k;
  few = omega (arith, all);
  accepted = h;
  all = λ e. all;
  short = λ e. absurd (not_stopped Memory e);
  broken = λ e. absurd (not_stopped Write e);
}

-- where nothing was written but the header, no plan was accepted
pub none_fed : {S : Type 0} (output : S → Output) (job : JobValue) (name : Bytes) (before : Output) (pen : Pen S) → Began name (header_of job) before (output pen.sink) → pen.failed ≡ false → pen.bytes ≡ bytes_after 0 (length (header_of job))
    → Streamed output name (header_of job) before pen
none_fed output job name before pen began unfailed counted = record {
  whole = λ e. began;
  bytes = λ e. counted;
  broken = λ e. absurd (both pen.failed unfailed e);
}
  where
    both : (b : Bool) → b ≡ false → b ≡ true → ⊥
    both b e f = cc

-- what the end of the work makes of how the plans were fed
pub still_end : {S : Type 0} (output : S → Output) (job : JobValue) (name : Bytes) (before : Output) (buffer : BufferValue S) (fed result : Result (Unit {0}) Stop) (sink : S) → RestsOnPlans → WritesFronts → buffer.job ≡ job
    → Fed output job name before fed buffer → ((stop : Stop) → fed ≡ Err stop → (result ≡ Err stop) × (sink ≡ buffer.pen.sink))
    → ((past : Past) → fed ≡ Ok tt → HasAccepted output buffer past → Flushed output buffer.job past result sink) → Wrote result job name before (output sink)
still_end output job name before buffer (Ok tt) result sink rests fronts same f stopped done =
    let flushed = done (past_of job name before f.count) refl f.accepted in
    end_flushed output job name before f.count result sink (f.all refl) (subst (λ (j : JobValue). Flushed output j (past_of job name before f.count) result sink) same flushed)
still_end output job name before buffer (Err stop) result sink rests fronts same f stopped done =
    let s = stopped stop refl in
    subst (λ (r : Result (Unit {0}) Stop). Wrote r job name before (output sink)) (sym s.0)
    (subst (λ (x : _). Wrote (Err stop) job name before (output x)) (sym s.1) (end_stopped output job name before buffer stop rests fronts same f))

-- how many bytes were put once all was written
pub bytes_at_end : {S : Type 0} (output : S → Output) (job : JobValue) (name : Bytes) (before : Output) (buffer : BufferValue S) (fed result : Result (Unit {0}) Stop) (bytes : ℕ) → buffer.job ≡ job
    → Fed output job name before fed buffer → ((stop : Stop) → fed ≡ Err stop → result ≡ Err stop)
    → ((past : Past) → HasAccepted output buffer past → result ≡ Ok tt → bytes ≡ bytes_after 0 (length (file_of buffer.job past.plans))) → result ≡ Ok tt → bytes ≡ bytes_after 0 (length (job_file job))
bytes_at_end output job name before buffer (Ok tt) result bytes same f stopped count ok =
    count (past_of job name before f.count) f.accepted ok
    ∙ ap (λ (j : JobValue). bytes_after 0 (length (file_of j (take f.count (plans_of job))))) same
    ∙ ap (λ (file : Bytes). bytes_after 0 (length file)) (file_of_all job f.count (f.all refl))
bytes_at_end output job name before buffer (Err stop) result bytes same f stopped count ok = absurd (not_ok stop (sym (stopped stop refl) ∙ ok))

-- a file was written only where all plans were fed
pub wrote_fed : (fed wrote : Result (Unit {0}) Stop) → ((stop : Stop) → fed ≡ Err stop → wrote ≡ Err stop) → wrote ≡ Ok tt → fed ≡ Ok tt
wrote_fed (Ok t) wrote stopped ok = refl
wrote_fed (Err stop) wrote stopped ok = absurd (not_ok stop (sym (stopped stop refl) ∙ ok))
