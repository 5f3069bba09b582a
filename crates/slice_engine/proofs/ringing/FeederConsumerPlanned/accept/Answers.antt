use Rattle.std.proofs.Common.{◌≡◌, ◌≤◌, ◌<◌, ◌∙◌, List, [], ◌∷◌, ◌++◌, length, ap, sym, arith}
use Rattle.plan_types.specs.Plans.{LayerPlanValue}
use Rattle.layer_plan.specs.Plan.{plan_of}
use Rattle.print_totals.specs.Spending.{HasSpent}
use Rattle.slice_engine.proofs.Rings.{fed_next, taken_count}
use Rattle.slice_engine.proofs.Streams.{fed_more}
use Rattle.slice_engine.proofs.Spendings.{spent_next, spent_count}
use Rattle.slice_engine.proofs.ringing.FeederConsumerPlanned.accept.Goals as goal

pub accept-requires-clause-few : goal.accept-requires-clause-few
accept-requires-clause-few g c =
    let f = c.self.inside in
    let within : c.args._layer < length f.job.now.layers = rw (← c.self.view_is) at c.requires.within in
    let le : c.args._layer ≤ length f.job.now.layers = omega (arith, within) in
    let next = rw (← c.self.view_is) at c.requires.next in
    let taken = taken_count g.S.Sink.output f.job.now f.name.value (g.S.Sink.output f.before.value) c.args._layer f.buffer le (next le).1 in
    let few : length c.job.inside.layers ≤ 40000 = c.job.invariant.few in
    let same : length c.job.inside.layers ≡ length f.job.now.layers = ap (λ j. length j.layers) c.job.view_is in
    omega (arith, taken, within, few, same)

pub add-requires-clause-room : goal.add-requires-clause-room
add-requires-clause-room g c =
    let f = c.self.inside in
    let within : c.args._layer < length f.job.now.layers = rw (← c.self.view_is) at c.requires.within in
    let le : c.args._layer ≤ length f.job.now.layers = omega (arith, within) in
    let next = rw (← c.self.view_is) at c.requires.next in
    let added = spent_count f.job.now c.args._layer f.spent le (next le).2 in
    let few : length c.job.inside.layers ≤ 40000 = c.job.invariant.few in
    let same : length c.job.inside.layers ≡ length f.job.now.layers = ap (λ j. length j.layers) c.job.view_is in
    omega (arith, added, within, few, same)

pub invariant_of-self : goal.invariant_of-self
invariant_of-self g c =
    let f = c.self.inside in
    let within : c.args._layer < length f.job.now.layers = rw (← c.self.view_is) at c.requires.within in
    let le : c.args._layer ≤ length f.job.now.layers = omega (arith, within) in
    let next = rw (← c.self.view_is) at c.requires.next in
    let planned = rw (← c.self.view_is) at c.requires.plan in
    let is : c.plan.inside.plan ≡ plan_of f.job.now c.args._layer = ap (λ p. p.plan) c.plan.view_is ∙ ap (λ p. p.plan) planned in
    fed_next g.S.Sink.output f.job.now f.name.value f.before.value c.args._layer c.plan.inside.plan f.buffer c.accept.new.self within is c.self.invariant.job_is c.accept.ensures.job c.accept.ensures.accepted (next le).1

pub invariant_of-self-2 : goal.invariant_of-self-2
invariant_of-self-2 g c =
    let f = c.self.inside in
    let within : c.args._layer < length f.job.now.layers = rw (← c.self.view_is) at c.requires.within in
    let le : c.args._layer ≤ length f.job.now.layers = omega (arith, within) in
    let next = rw (← c.self.view_is) at c.requires.next in
    let planned = rw (← c.self.view_is) at c.requires.plan in
    let is : c.plan.inside.plan ≡ plan_of f.job.now c.args._layer = ap (λ p. p.plan) c.plan.view_is ∙ ap (λ p. p.plan) planned in
    fed_next g.S.Sink.output f.job.now f.name.value f.before.value c.args._layer c.plan.inside.plan f.buffer c.accept.new.self within is c.self.invariant.job_is c.accept.ensures.job c.accept.ensures.accepted (next le).1

pub returns-clause-ok : goal.returns-clause-ok
returns-clause-ok g c = λ more.
    let f = c.self.inside in
    let within : c.args._layer < length f.job.now.layers = rw (← c.self.view_is) at c.requires.within in
    let le : c.args._layer ≤ length f.job.now.layers = omega (arith, within) in
    let next = rw (← c.self.view_is) at c.requires.next in
    let planned = rw (← c.self.view_is) at c.requires.plan in
    let is : c.plan.inside.plan ≡ plan_of f.job.now c.args._layer = ap (λ p. p.plan) c.plan.view_is ∙ ap (λ p. p.plan) planned in
    let added : (ls : List LayerPlanValue) → HasSpent f.job.now ls f.spent → HasSpent f.job.now (ls ++ c.plan.inside.plan ∷ []) c.add.new.self = c.add.ensures in (
      c.accept.ensures.failed ∙ sym c.is_err.ensures.value ∙ c.if-is_err.false,
      fed_more g.S.Sink.output f.job.now f.name.value (g.S.Sink.output f.before.value) c.args._layer c.plan.inside.plan f.buffer c.accept.new.self within is c.accept.ensures.accepted (next le).1,
      spent_next f.job.now c.args._layer c.plan.inside.plan f.spent c.add.new.self within is added (next le).2,
    )
