use Rattle.plan_types.proofs.Once.{once}
use Rattle.plan_types.proofs.orders.orders_have_each_once.Goals as goal

pub returns : goal.returns
returns c = once
