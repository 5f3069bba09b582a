use Rattle.std.proofs.Common.{rules, ◌≡◌, ◌==◌, ◌<◌, ◌≤◌, ℕ, List, length, sym, subst}
use Rattle.std.specs.List.{All, count_by}
use Rattle.plan_types.specs.Jobs.{IsLayer}
use Rattle.plan_types.specs.Orders.{extruder_order_of}
use Rattle.layer_plan.proofs.tests.layer.Goals as goal

pub returns : goal.returns
returns c = record {
  meshes_are = search rules;
  known = search rules;
  once = subst (λ (es : List ℕ). (e : ℕ) → count_by (λ k. k == e) es ≤ 1) (sym c.extruder_order-order.ensures) (c.orders_have_each_once.ensures 0 c.args.wanted);
  thin = search rules;
}
