use Rattle.std.proofs.Common.{◌≡◌, ◌-◌, ◌≤◌, List, ap, arith}
use Rattle.plan_types.specs.Steps.{path_counts_of}
use Rattle.preheat_plan.specs.Held.{front_in}
use Rattle.plan_store.specs.Inner.Sound.{held_of}
use Rattle.plan_store.proofs.Sound.{front_low, spot_done}
use Rattle.plan_store.proofs.placing.spot.Goals as goal

pub spot_at-first-requires-clause-number : goal.spot_at-first-requires-clause-number
spot_at-first-requires-clause-number c =
    let low = front_low c.args.marks c.args.e c.args.store.now c.requires.sound in
    omega (arith, low, c.front-front.ensures c.args.store.now, c.requires.sound.base, c.requires.more, ap path_counts_of c.plans-plans.ensures.value)

pub place-requires-clause-order : goal.place-requires-clause-order
place-requires-clause-order c =
    let low = front_low c.args.marks c.args.e c.args.store.now c.requires.sound in
    omega (arith, low, c.front-front.ensures c.args.store.now, c.spot_at-first.ensures.number, c.spot_at-start.ensures.number)

pub returns-clause-number : goal.returns-clause-number
returns-clause-number c =
    spot_done c.args.job.now c.args.e c.args.store.now c.plans-plans.result.now c.args.marks c.place.result c.spot_at-first.result c.spot_at-start.result c.extruder.result.now c.time_since-left.result c.left_by.result c.front-front.result c.elapsed.result c.plans-plans.ensures.value (c.front-front.ensures c.args.store.now) c.left_by.ensures c.elapsed.ensures.exact c.time_since-left.ensures.exact c.extruder.ensures c.spot_at-first.ensures.number c.spot_at-start.ensures.number c.place.ensures.placed
