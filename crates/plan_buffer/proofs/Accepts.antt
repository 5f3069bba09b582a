-- One plan more is taken, and the oldest is written.
use Rattle.std.proofs.Common.{ℕ, ◌+◌, ◌-◌, ◌≤◌, ◌<◌, ◌≡◌, min, true, false, Result, OnOk, OnErr, List, [], ◌∷◌, ◌++◌, length, take, drop, refl, ap, sym, ◌∙◌, subst, arith}
use Rattle.std.specs.List.{All}
use Rattle.std.specs.Prelude.{is_err}
use Rattle.std.proofs.lemmas.List.{append-nil, length-append, length-drop}
use Rattle.std.proofs.lemmas.List.Elements.{All-nil, All-cons, All-append, All-tail, All-weaker}
use Rattle.slice_base.specs.Shapes.{Bytes}
use Rattle.outside.specs.declared.pens.Pen.{Pen}
use Rattle.outside.specs.Output.{Output}
use Rattle.outside.specs.Pens.{Wrote, bytes_after}
use Rattle.gcode_write.specs.declared.writer.WriteFault.{WriteFault}
use Rattle.gcode_write.specs.Writing.{Ended, Broke}
use Rattle.plan_types.specs.declared.plans.ExtruderPlan.{ExtruderPlan}
use Rattle.plan_types.specs.Jobs.{JobValue, Names}
use Rattle.plan_types.specs.Plans.{LayerPlanValue, EachOnce}
use Rattle.plan_types.specs.Leads.{origin}
use Rattle.gcode_write.specs.declared.progress.Progress.{Progress}
use Rattle.gcode_write.specs.Layers.{layer_text_of, after_layer, layers_text_of, after_layers}
use Rattle.gcode_write.specs.Ends.{header_of, footer_of, start_of}
use Rattle.preheat_plan.specs.Past.{Rules, rules_of}
use Rattle.preheat_plan.specs.Completed.{completed_of, IsFresh, KnowsItsExtruders}
use Rattle.preheat_plan.specs.Held.{Held, taken, let_go, nothing_held}
use Rattle.preheat_plan.specs.Follows.{Follows, WindowLaws}
use Rattle.plan_store.specs.Windows.{WindowValue}
use Rattle.plan_buffer.specs.File.{file_of, text_up_to}
use Rattle.plan_buffer.specs.Streams.{Streamed}
use Rattle.plan_buffer.specs.Buffers.{BufferValue}
use Rattle.plan_buffer.specs.Accepted.{Past, HasWritten, HasAccepted, Finished, BrokeOff}
use Rattle.plan_buffer.specs.Inner.Sound.{IsBuffer, WroteOldest}
use Rattle.plan_buffer.proofs.Streams.{streamed_then, streamed_as, flush_ok, flush_bytes, flush_err}
use Rattle.plan_buffer.proofs.Texts.{RestsOnAWindow, stays, text_on, stands_on, whole_text}

abbrev pub with_plan : Past → LayerPlanValue → Past
with_plan past l = record past { plans = past.plans ++ l ∷ [] }

-- nothing was accepted yet
pub at_start : WindowLaws → {S : Type 0} (output : S → Output) (job : JobValue) (name : Bytes) (before : Output) (progress : Progress) (pen : Pen S) (window : WindowValue) (layers : ℕ) → window ≡ record { held = nothing_held job.first origin; taken = 0 } → Streamed output name (header_of job) before pen → progress ≡ start_of job → HasAccepted output (record { job = job; window = window; pen = pen; progress = progress; layers = layers }) (record { plans = []; name = name; before = before })
at_start laws output job name before progress pen window layers is stream stands =
    let past : Past = record { plans = []; name = name; before = before } in
    let z : 0 ≡ 0 - job.settings.preheat_window_layers = omega arith in
    let written : HasWritten output job past 0 (nothing_held job.first origin) progress pen = record {
      fresh = All-nil IsFresh;
      follows = laws.start (rules_of job);
      stands = stands;
      stream = streamed_as output name (header_of job) (header_of job ++ []) before pen (sym (append-nil (header_of job))) stream;
    } in
    record {
      taken = ap (λ (w : WindowValue). w.taken) is;
      written = subst (λ n. HasWritten output job past n window.held progress pen) z (subst (λ (h : Held). HasWritten output job past 0 h progress pen) (sym (ap (λ (w : WindowValue). w.held) is)) written);
    }

-- the next plan is taken, and nothing is written yet
pub take_on : WindowLaws → RestsOnAWindow → {S : Type 0} (output : S → Output) (job : JobValue) (past : Past) (l : LayerPlanValue) (held new : Held) (progress : Progress) (pen : Pen S) → IsFresh l → new ≡ taken (rules_of job) l held → HasWritten output job past (length past.plans - job.settings.preheat_window_layers) held progress pen → HasWritten output job (with_plan past l) (length past.plans - job.settings.preheat_window_layers) new progress pen
take_on laws rests output job past l held new progress pen fresh is at =
    let r = rules_of job in
    let ls = past.plans in
    let n = length ls - job.settings.preheat_window_layers in
    let all : All IsFresh (ls ++ l ∷ []) = All-append IsFresh ls (l ∷ []) at.fresh (All-cons IsFresh l [] fresh (All-nil IsFresh)) in
    let same : take n (completed_of r ls) ≡ take n (completed_of r (ls ++ l ∷ [])) = stays rests r ls l in
    record {
      fresh = all;
      follows = subst (Follows r (ls ++ l ∷ []) n) (sym is) (laws.take r ls l held all at.follows);
      stands = at.stands ∙ ap (after_layers job.settings.extruders (start_of job)) same;
      stream = streamed_as output past.name (text_up_to job ls n) (text_up_to job (ls ++ l ∷ []) n) past.before pen (ap (λ (c : List LayerPlanValue). header_of job ++ layers_text_of job.settings.extruders (start_of job) c) same) at.stream;
    }

-- the oldest is written
pub write_on : WindowLaws → {S : Type 0} (output : S → Output) (job : JobValue) (past : Past) (n : ℕ) (old new : Held) (progress after : Progress) (pen pen_after : Pen S) → WroteOldest output job old new progress after pen pen_after → HasWritten output job past n old progress pen → HasWritten output job past (n + 1) new after pen_after
write_on laws output job past n old new progress after pen pen_after w at =
    let r = rules_of job in
    let ls = past.plans in
    let front : drop n (completed_of r ls) ≡ w.oldest ∷ new.plans = sym at.follows.plans ∙ w.parts in
    record {
      fresh = at.fresh;
      follows = subst (Follows r ls (n + 1)) (sym w.rest) (laws.let_go r ls n w.oldest new.plans old w.parts at.follows);
      stands = stands_on job ls new.plans w.oldest n progress after front at.stands w.stands;
      stream = streamed_as output past.name (text_up_to job ls n ++ layer_text_of job.settings.extruders progress w.oldest) (text_up_to job ls (n + 1)) past.before pen_after (text_on job ls new.plans w.oldest n progress front at.stands) (streamed_then output past.name (text_up_to job ls n) (layer_text_of job.settings.extruders progress w.oldest) past.before pen pen_after at.stream w.wrote);
    }

-- how many plans are held
pub held_count : WindowLaws → {S : Type 0} (output : S → Output) (job : JobValue) (past : Past) (n : ℕ) (held : Held) (progress : Progress) (pen : Pen S) → HasWritten output job past n held progress pen → length held.plans ≡ length past.plans - n
held_count laws output job past n held progress pen at =
    ap length at.follows.plans ∙ length-drop n (completed_of (rules_of job) past.plans) ∙ ap (λ k. k - n) (laws.count (rules_of job) past.plans)

-- no more than a window is held: nothing is written
pub few_on : WindowLaws → {S : Type 0} (output : S → Output) (job : JobValue) (past : Past) (l : LayerPlanValue) (held : Held) (progress : Progress) (pen : Pen S) → length held.plans ≤ job.settings.preheat_window_layers → HasWritten output job (with_plan past l) (length past.plans - job.settings.preheat_window_layers) held progress pen → HasWritten output job (with_plan past l) (length (past.plans ++ l ∷ []) - job.settings.preheat_window_layers) held progress pen
few_on laws output job past l held progress pen few at =
    let w = job.settings.preheat_window_layers in
    let k = length past.plans in
    let size : length (past.plans ++ l ∷ []) ≡ k + 1 = length-append past.plans (l ∷ []) in
    let count = held_count laws output job (with_plan past l) (k - w) held progress pen at in
    let same : k - w ≡ length (past.plans ++ l ∷ []) - w = omega (arith, size, count, few) in
    subst (λ n. HasWritten output job (with_plan past l) n held progress pen) same at

-- more than a window is held: the oldest is written
pub many_on : WindowLaws → {S : Type 0} (output : S → Output) (job : JobValue) (past : Past) (l : LayerPlanValue) (held new : Held) (progress after : Progress) (pen pen_after : Pen S) → job.settings.preheat_window_layers < length held.plans → WroteOldest output job held new progress after pen pen_after → HasWritten output job (with_plan past l) (length past.plans - job.settings.preheat_window_layers) held progress pen → HasWritten output job (with_plan past l) (length (past.plans ++ l ∷ []) - job.settings.preheat_window_layers) new after pen_after
many_on laws output job past l held new progress after pen pen_after many w at =
    let window = job.settings.preheat_window_layers in
    let k = length past.plans in
    let size : length (past.plans ++ l ∷ []) ≡ k + 1 = length-append past.plans (l ∷ []) in
    let count = held_count laws output job (with_plan past l) (k - window) held progress pen at in
    let same : (k - window) + 1 ≡ length (past.plans ++ l ∷ []) - window = omega (arith, size, count, many) in
    subst (λ n. HasWritten output job (with_plan past l) n new after pen_after) same (write_on laws output job (with_plan past l) (k - window) held new progress after pen pen_after w at)

-- a plan that names extruders of the job, each once at most, and has no preheat
pub fresh_plan : (job : JobValue) (l : LayerPlanValue) → length job.settings.extruders ≤ 8 → All (Names job.settings) l.plans → EachOnce l.plans → l.inserts ≡ [] → IsFresh l
fresh_plan job l eight known once bare = record {
  bare = bare;
  known = All-weaker (Names job.settings) (λ (x : ExtruderPlan). x.extruder < 8) (λ x h. omega (arith, h, eight)) l.plans known;
  once = once;
}

-- a buffer that took the next plan, and needs to write none
pub accepted_few : WindowLaws → RestsOnAWindow → {S : Type 0} (output : S → Output) (v b : BufferValue S) (window : WindowValue) (l : LayerPlanValue) (past : Past) → v ≡ b → IsFresh l → window.held ≡ taken (rules_of v.job) l v.window.held → window.taken ≡ v.window.taken + 1 → length window.held.plans ≤ v.job.settings.preheat_window_layers → HasAccepted output b past → HasAccepted output (record v { window = window }) (with_plan past l)
accepted_few laws rests {S = S} output v b window l past same fresh held count few accepted =
    let at : HasAccepted output v past = subst (λ (b : BufferValue S). HasAccepted output b past) (sym same) accepted in
    record {
      taken = omega (arith, count, at.taken, length-append past.plans (l ∷ []));
      written = few_on laws output v.job past l window.held v.progress v.pen few (take_on laws rests output v.job past l v.window.held window.held v.progress v.pen fresh held at.written);
    }

-- a buffer that took the next plan, and wrote its oldest
pub accepted_many : WindowLaws → RestsOnAWindow → {S : Type 0} (output : S → Output) (v b : BufferValue S) (window after : WindowValue) (job : JobValue) (progress : Progress) (pen : Pen S) (layers : ℕ) (l : LayerPlanValue) (past : Past) → v ≡ b → IsFresh l → window.held ≡ taken (rules_of v.job) l v.window.held → window.taken ≡ v.window.taken + 1 → v.job.settings.preheat_window_layers < length window.held.plans → WroteOldest output v.job window.held after.held v.progress progress v.pen pen → after.taken ≡ window.taken → job ≡ v.job → HasAccepted output b past → HasAccepted output (record { job = job; window = after; pen = pen; progress = progress; layers = layers }) (with_plan past l)
accepted_many laws rests {S = S} output v b window after job progress pen layers l past same fresh held count many oldest kept is_job accepted =
    let at : HasAccepted output v past = subst (λ (b : BufferValue S). HasAccepted output b past) (sym same) accepted in
    let on = many_on laws output v.job past l window.held after.held v.progress progress v.pen pen many oldest (take_on laws rests output v.job past l v.window.held window.held v.progress v.pen fresh held at.written) in
    record {
      taken = omega (arith, kept, count, at.taken, length-append past.plans (l ∷ []));
      written = subst (λ (j : JobValue). HasWritten output j (with_plan past l) (length (past.plans ++ l ∷ []) - j.settings.preheat_window_layers) after.held progress pen) (sym is_job) on;
    }

-- the numbers of a buffer stay in range
pub buffer_few : WindowLaws → (job : JobValue) (old new : WindowValue) (l : LayerPlanValue) (layers : ℕ) → IsBuffer job old layers → All (Names job.settings) l.plans → new.held ≡ taken (rules_of job) l old.held → new.taken ≡ old.taken + 1 → old.taken < 40000 → length new.held.plans ≤ job.settings.preheat_window_layers → IsBuffer job new layers
buffer_few laws job old new l layers sound known held count room few =
    let Known = KnowsItsExtruders (length job.settings.extruders) in
    let longer : length new.held.plans ≡ length old.held.plans + 1 = ap (λ (h : Held). length h.plans) held ∙ laws.longer (rules_of job) l old.held in
    record {
      room = few;
      known = subst (λ (h : Held). All Known h.plans) (sym held) (laws.known (rules_of job) (length job.settings.extruders) l old.held known sound.known);
      counts = omega (arith, count, sound.counts, longer);
      few = omega (arith, count, room);
    }

pub buffer_many : WindowLaws → {S : Type 0} (output : S → Output) (job now : JobValue) (old new after : WindowValue) (l : LayerPlanValue) (layers more : ℕ) (progress progress_after : Progress) (pen pen_after : Pen S) → IsBuffer job old layers → All (Names job.settings) l.plans → new.held ≡ taken (rules_of job) l old.held → new.taken ≡ old.taken + 1 → old.taken < 40000 → WroteOldest output job new.held after.held progress progress_after pen pen_after → after.taken ≡ new.taken → more ≡ layers + 1 → now ≡ job → IsBuffer now after more
buffer_many laws output job now old new after l layers more progress progress_after pen pen_after sound known held count room oldest kept next is_job =
    let Known = KnowsItsExtruders (length job.settings.extruders) in
    let longer : length new.held.plans ≡ length old.held.plans + 1 = ap (λ (h : Held). length h.plans) held ∙ laws.longer (rules_of job) l old.held in
    let all : All Known new.held.plans = subst (λ (h : Held). All Known h.plans) (sym held) (laws.known (rules_of job) (length job.settings.extruders) l old.held known sound.known) in
    let parts : length new.held.plans ≡ length after.held.plans + 1 = ap (λ (ls : List LayerPlanValue). length ls) oldest.parts ∙ omega arith in
    subst (λ (j : JobValue). IsBuffer j after more) (sym is_job) (record {
      room = omega (arith, sound.room, longer, parts);
      known = All-tail Known oldest.oldest after.held.plans (subst (All Known) oldest.parts all);
      counts = omega (arith, kept, count, sound.counts, longer, parts, next);
      few = omega (arith, kept, count, room);
    })

-- how many are held
pub held_least : WindowLaws → {S : Type 0} (output : S → Output) (b : BufferValue S) (past : Past) → HasAccepted output b past → length b.window.held.plans ≡ min (length past.plans) b.job.settings.preheat_window_layers
held_least laws output b past at =
    let w = b.job.settings.preheat_window_layers in
    let count = held_count laws output b.job past (length past.plans - w) b.window.held b.progress b.pen at.written in
    omega (arith, count)

-- one more of all that are held
pub all_on : WindowLaws → {S : Type 0} (output : S → Output) (job now : JobValue) (past : Past) (n whole : ℕ) (old new : Held) (progress after : Progress) (pen pen_after : Pen S) → length old.plans ≤ whole → WroteOldest output job old new progress after pen pen_after → now ≡ job → HasWritten output job past (n + (whole - length old.plans)) old progress pen → HasWritten output now past (n + (whole - length new.plans)) new after pen_after
all_on laws output job now past n whole old new progress after pen pen_after fits oldest is_job at =
    let parts : length old.plans ≡ length new.plans + 1 = ap (λ (ls : List LayerPlanValue). length ls) oldest.parts ∙ omega arith in
    let m : (n + (whole - length old.plans)) + 1 ≡ n + (whole - length new.plans) = omega (arith, fits, parts) in
    subst (λ (j : JobValue). HasWritten output j past (n + (whole - length new.plans)) new after pen_after) (sym is_job) (subst (λ k. HasWritten output job past k new after pen_after) m (write_on laws output job past (n + (whole - length old.plans)) old new progress after pen pen_after oldest at))

-- what a buffer that has accepted plans and then wrote all that it held has in its sink, before the footer
abbrev pub WritesAll : {S : Type 0} → (S → Output) → BufferValue S → Held → Progress → Pen S → Type 0
WritesAll output v held progress pen = (past : Past) (n : ℕ) → HasWritten output v.job past n v.window.held v.progress v.pen → HasWritten output v.job past (n + length v.window.held.plans) held progress pen

-- the text before the footer, and the file
record AllWritten {S : Type 0} (output : S → Output) (job : JobValue) (past : Past) (pen : Pen S) : Type 0 where
  pub text : Bytes
  pub stream : Streamed output past.name text past.before pen
  pub file : text ++ footer_of job ≡ file_of job past.plans

all_written : WindowLaws → {S : Type 0} (output : S → Output) (v b : BufferValue S) (past : Past) (held : Held) (progress : Progress) (m : Pen S) → v ≡ b → HasAccepted output b past → WritesAll output v held progress m → AllWritten output b.job past m
all_written laws {S = S} output v b past held progress m same accepted all =
    let at : HasAccepted output v past = subst (λ (b : BufferValue S). HasAccepted output b past) (sym same) accepted in
    let k = length past.plans in
    let n = k - v.job.settings.preheat_window_layers in
    let count = held_count laws output v.job past n v.window.held v.progress v.pen at.written in
    let done = all past n at.written in
    let enough : length (completed_of (rules_of v.job) past.plans) ≤ n + length v.window.held.plans = omega (arith, laws.count (rules_of v.job) past.plans, count) in
    subst (λ (b : BufferValue S). AllWritten output b.job past m) same (record {
      text = text_up_to v.job past.plans (n + length v.window.held.plans);
      stream = done.stream;
      file = whole_text v.job past.plans (n + length v.window.held.plans) enough;
    })

pub flushed_ok : WindowLaws → {S : Type 0} (output : S → Output) (v b : BufferValue S) (now : JobValue) (past : Past) (r : Result (Unit {0}) WriteFault) (held : Held) (progress : Progress) (m d : Pen S) → v ≡ b → now ≡ v.job → HasAccepted output b past → WritesAll output v held progress m → (m.failed ≡ true → Wrote output m [] d) → d.failed ≡ is_err r → OnOk r (Ended (footer_of now) (output m.sink) (output d.sink)) → OnOk r (Finished past.name (file_of b.job past.plans) past.before (output d.sink))
flushed_ok laws {S = S} output v b now past r held progress m d same is_job accepted all again failed ended =
    let w = all_written laws output v b past held progress m same accepted all in
    let job : now ≡ b.job = is_job ∙ ap (λ (b : BufferValue S). b.job) same in
    subst (λ (t : Bytes). OnOk r (Finished past.name t past.before (output d.sink))) w.file (flush_ok output r past.name w.text (footer_of b.job) past.before m d w.stream again failed (subst (λ (j : JobValue). OnOk r (Ended (footer_of j) (output m.sink) (output d.sink))) job ended))

pub flushed_bytes : WindowLaws → {S : Type 0} (output : S → Output) (v b : BufferValue S) (now : JobValue) (past : Past) (r : Result (Unit {0}) WriteFault) (held : Held) (progress : Progress) (m d : Pen S) → v ≡ b → now ≡ v.job → HasAccepted output b past → WritesAll output v held progress m → (m.failed ≡ true → Wrote output m [] d) → d.failed ≡ is_err r → OnOk r (d.bytes ≡ bytes_after m.bytes (length (footer_of now))) → OnOk r (d.bytes ≡ bytes_after 0 (length (file_of b.job past.plans)))
flushed_bytes laws {S = S} output v b now past r held progress m d same is_job accepted all again failed counted =
    let w = all_written laws output v b past held progress m same accepted all in
    let job : now ≡ b.job = is_job ∙ ap (λ (b : BufferValue S). b.job) same in
    subst (λ (t : Bytes). OnOk r (d.bytes ≡ bytes_after 0 (length t))) w.file (flush_bytes output r past.name w.text (footer_of b.job) past.before m d w.stream again failed (subst (λ (j : JobValue). OnOk r (d.bytes ≡ bytes_after m.bytes (length (footer_of j)))) job counted))

pub flushed_err : WindowLaws → {S : Type 0} (output : S → Output) (v b : BufferValue S) (now : JobValue) (past : Past) (r : Result (Unit {0}) WriteFault) (held : Held) (progress : Progress) (m d : Pen S) → v ≡ b → now ≡ v.job → HasAccepted output b past → WritesAll output v held progress m → (m.failed ≡ true → Wrote output m [] d) → OnErr r (m.failed ≡ false → Broke output (footer_of now) m d) → OnErr r (BrokeOff past.name (file_of b.job past.plans) past.before (output d.sink))
flushed_err laws {S = S} output v b now past r held progress m d same is_job accepted all again broke =
    let w = all_written laws output v b past held progress m same accepted all in
    let job : now ≡ b.job = is_job ∙ ap (λ (b : BufferValue S). b.job) same in
    subst (λ (t : Bytes). OnErr r (BrokeOff past.name t past.before (output d.sink))) w.file (flush_err output r past.name w.text (footer_of b.job) past.before m d w.stream again (subst (λ (j : JobValue). OnErr r (m.failed ≡ false → Broke output (footer_of j) m d)) job broke))
