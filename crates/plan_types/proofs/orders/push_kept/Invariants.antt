use Rattle.std.proofs.Common.{◌≡◌, ◌++◌, drop}
use Rattle.std.specs.List.{filter}
use Rattle.plan_types.specs.Orders.{all_extruders, is_kept_on}
use Rattle.plan_types.proofs.orders.push_kept.Given as goal

abbrev pub invariant-loop-e : goal.invariant-loop-e
invariant-loop-e l = l.order.items ++ filter (is_kept_on l.last l.wanted) (drop l.e-index l.e-items) ≡ filter (is_kept_on l.last l.wanted) all_extruders
