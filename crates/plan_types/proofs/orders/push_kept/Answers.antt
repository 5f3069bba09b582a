use Rattle.std.proofs.Common.{◌∙◌, get_or, sym}
use Rattle.std.proofs.lemmas.List.{get_or_default}
use Rattle.std.specs.List.{filter}
use Rattle.plan_types.specs.Orders.{all_extruders, is_kept_on}
use Rattle.plan_types.proofs.Lists.{filter-le, filter-step, room}
use Rattle.plan_types.proofs.orders.push_kept.Goals as goal

pub push_where-requires : goal.push_where-requires
push_where-requires c = λ next.
    let e = get_or all_extruders c.loop-e.e-index 0 in
    let at = get_or_default all_extruders c.loop-e.e-index 0 e c.loop-e-test.true in
    room (is_kept_on c.args.last c.args.wanted) c.loop-e.order.items all_extruders (filter (is_kept_on c.args.last c.args.wanted) all_extruders) c.loop-e.e-index e c.loop-e-test.true at
    (sym c.is_kept_on.ensures ∙ next) c.loop-e.invariant (filter-le (is_kept_on c.args.last c.args.wanted) all_extruders)

pub loop-e-preserved : goal.loop-e-preserved
loop-e-preserved c =
    let e = get_or all_extruders c.loop-e.e-index 0 in
    let at = get_or_default all_extruders c.loop-e.e-index 0 e c.loop-e-test.true in
    filter-step (is_kept_on c.args.last c.args.wanted) c.loop-e.order.items c.push_where.new.order.items all_extruders (filter (is_kept_on c.args.last c.args.wanted) all_extruders) c.loop-e.e-index e c.is_kept_on.result
    c.loop-e-test.true at c.is_kept_on.ensures c.push_where.ensures c.loop-e.invariant
