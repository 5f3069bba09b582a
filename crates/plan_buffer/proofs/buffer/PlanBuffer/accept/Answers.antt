use Rattle.std.proofs.Common.{◌≡◌, ◌+◌, ◌≤◌, ◌<◌, ◌∙◌, List, length, ap, sym, subst, arith, rules}
use Rattle.std.specs.List.{All}
use Rattle.plan_types.specs.Jobs.{JobValue, Names}
use Rattle.plan_types.specs.Plans.{LayerPlanValue}
use Rattle.preheat_plan.specs.Past.{rules_of}
use Rattle.preheat_plan.specs.Completed.{IsFresh}
use Rattle.preheat_plan.specs.Held.{taken}
use Rattle.plan_store.specs.Windows.{WindowValue}
use Rattle.plan_buffer.specs.Buffers.{BufferValue}
use Rattle.plan_buffer.proofs.Accepts.{fresh_plan, accepted_few, accepted_many, buffer_few, buffer_many}
use Rattle.plan_buffer.proofs.buffer.PlanBuffer.accept.Goals as goal

pub take-requires-clause-room : goal.take-requires-clause-room
take-requires-clause-room g c =
    omega (arith, c.self.invariant.room, c.window_layers-most.ensures.exact, c.window_layers-most.ensures.few, ap (λ (j : JobValue). j.settings.preheat_window_layers) c.job.ensures)

pub invariant_of-self : goal.invariant_of-self
invariant_of-self g c =
    let w = c.self.inside.writer in
    let job = w.job.now in
    let old = c.self.inside.window in
    let new = c.take.new.self in
    let plan = c.args.plan in
    let v : BufferValue g.row.S.Denot = record { job = job; window = old; pen = w.pen; progress = w.progress; layers = w.layers } in
    let same : v ≡ c.args.self.now = c.self.view_is in
    let known : All (Names job.settings) plan.plans = subst (λ (b : BufferValue g.row.S.Denot). All (Names b.job.settings) plan.plans) (sym same) c.requires.known in
    let held : new.held ≡ taken (rules_of job) plan old.held = c.take.ensures.held ∙ ap (λ (j : JobValue). taken (rules_of j) plan old.held) c.job-2.ensures in
    let count : new.taken ≡ old.taken + 1 = c.take.ensures.taken in
    let room : old.taken < 40000 = omega (arith, c.requires.few, ap (λ (b : BufferValue g.row.S.Denot). b.window.taken) same) in
    let most : c.window_layers-most.result ≡ job.settings.preheat_window_layers = c.window_layers-most.ensures.exact ∙ ap (λ (j : JobValue). j.settings.preheat_window_layers) c.job.ensures in
    let short : length new.held.plans ≤ job.settings.preheat_window_layers = omega (arith, c.if-plans-most.true, most, ap (λ (ls : List LayerPlanValue). length ls) c.plans.ensures.value) in
    buffer_few c.windows_follow.ensures job old new plan w.layers c.self.invariant known held count room short

pub returns-then-plans-most-clause-accepted : goal.returns-then-plans-most-clause-accepted
returns-then-plans-most-clause-accepted g c = λ past at.
    let w = c.self.inside.writer in
    let job = w.job.now in
    let old = c.self.inside.window in
    let new = c.take.new.self in
    let plan = c.args.plan in
    let v : BufferValue g.row.S.Denot = record { job = job; window = old; pen = w.pen; progress = w.progress; layers = w.layers } in
    let same : v ≡ c.args.self.now = c.self.view_is in
    let known : All (Names job.settings) plan.plans = subst (λ (b : BufferValue g.row.S.Denot). All (Names b.job.settings) plan.plans) (sym same) c.requires.known in
    let held : new.held ≡ taken (rules_of job) plan old.held = c.take.ensures.held ∙ ap (λ (j : JobValue). taken (rules_of j) plan old.held) c.job-2.ensures in
    let count : new.taken ≡ old.taken + 1 = c.take.ensures.taken in
    let most : c.window_layers-most.result ≡ job.settings.preheat_window_layers = c.window_layers-most.ensures.exact ∙ ap (λ (j : JobValue). j.settings.preheat_window_layers) c.job.ensures in
    let short : length new.held.plans ≤ job.settings.preheat_window_layers = omega (arith, c.if-plans-most.true, most, ap (λ (ls : List LayerPlanValue). length ls) c.plans.ensures.value) in
    let eight : length job.settings.extruders ≤ 8 = omega (arith, c.window_layers-most.ensures.eight, ap (λ (j : JobValue). length j.settings.extruders) c.job.ensures) in
    let fresh : IsFresh plan = fresh_plan job plan eight known c.requires.once c.requires.bare in
    accepted_few c.windows_follow.ensures c.rests_on_a_window.ensures g.S.Sink.output v c.args.self.now new plan past same fresh held count short at

pub invariant_of-self-2 : goal.invariant_of-self-2
invariant_of-self-2 g c =
    let w = c.self.inside.writer in
    let job = w.job.now in
    let old = c.self.inside.window in
    let new = c.take.new.self in
    let plan = c.args.plan in
    let v : BufferValue g.row.S.Denot = record { job = job; window = old; pen = w.pen; progress = w.progress; layers = w.layers } in
    let same : v ≡ c.args.self.now = c.self.view_is in
    let known : All (Names job.settings) plan.plans = subst (λ (b : BufferValue g.row.S.Denot). All (Names b.job.settings) plan.plans) (sym same) c.requires.known in
    let held : new.held ≡ taken (rules_of job) plan old.held = c.take.ensures.held ∙ ap (λ (j : JobValue). taken (rules_of j) plan old.held) c.job-2.ensures in
    let count : new.taken ≡ old.taken + 1 = c.take.ensures.taken in
    let room : old.taken < 40000 = omega (arith, c.requires.few, ap (λ (b : BufferValue g.row.S.Denot). b.window.taken) same) in
    let d = c.write_oldest.new.writer in
    let e = c.write_oldest.ensures in
    buffer_many c.windows_follow.ensures g.S.Sink.output job d.job.now old new c.write_oldest.new.window plan w.layers d.layers w.progress d.progress w.pen d.pen c.self.invariant known held count room e.oldest e.taken e.layers e.job

pub returns-clause-accepted : goal.returns-clause-accepted
returns-clause-accepted g c = λ past at.
    let w = c.self.inside.writer in
    let job = w.job.now in
    let old = c.self.inside.window in
    let new = c.take.new.self in
    let plan = c.args.plan in
    let v : BufferValue g.row.S.Denot = record { job = job; window = old; pen = w.pen; progress = w.progress; layers = w.layers } in
    let same : v ≡ c.args.self.now = c.self.view_is in
    let known : All (Names job.settings) plan.plans = subst (λ (b : BufferValue g.row.S.Denot). All (Names b.job.settings) plan.plans) (sym same) c.requires.known in
    let held : new.held ≡ taken (rules_of job) plan old.held = c.take.ensures.held ∙ ap (λ (j : JobValue). taken (rules_of j) plan old.held) c.job-2.ensures in
    let count : new.taken ≡ old.taken + 1 = c.take.ensures.taken in
    let most : c.window_layers-most.result ≡ job.settings.preheat_window_layers = c.window_layers-most.ensures.exact ∙ ap (λ (j : JobValue). j.settings.preheat_window_layers) c.job.ensures in
    let long : job.settings.preheat_window_layers < length new.held.plans = omega (arith, c.if-plans-most.false, most, ap (λ (ls : List LayerPlanValue). length ls) c.plans.ensures.value) in
    let eight : length job.settings.extruders ≤ 8 = omega (arith, c.window_layers-most.ensures.eight, ap (λ (j : JobValue). length j.settings.extruders) c.job.ensures) in
    let fresh : IsFresh plan = fresh_plan job plan eight known c.requires.once c.requires.bare in
    let d = c.write_oldest.new.writer in
    let e = c.write_oldest.ensures in
    accepted_many c.windows_follow.ensures c.rests_on_a_window.ensures g.S.Sink.output v c.args.self.now new c.write_oldest.new.window d.job.now d.progress d.pen d.layers plan past same fresh held count long e.oldest e.taken e.job at
