use Rattle.std.proofs.Common.{◌≡◌, ◌++◌, drop}
use Rattle.std.specs.List.{filter}
use Rattle.plan_types.specs.Orders.{is_changed_to, extruder_order_of}
use Rattle.plan_types.proofs.orders.push_others.Given as goal

abbrev pub invariant-loop-e : goal.invariant-loop-e
invariant-loop-e l = l.order.items ++ filter (is_changed_to l.last l.wanted) (drop l.e-index l.e-items) ≡ extruder_order_of l.last l.wanted
