use Rattle.std.proofs.Common.{arith}
use Rattle.edge_cut.proofs.Read.{stops-by}
use Rattle.edge_cut.proofs.stops.stops_by_each.Goals as goal

pub returns : goal.returns
returns c = record {
  ok = stops-by c.args.e c.args.all.now c.gather_each.new.stops.items c.in_order.new.stops.items c.in_ok-gather_each.ensures.ok c.in_order.ensures.rising c.in_order.ensures.kept c.in_order.ensures.only;
  few = omega (arith, c.in_ok-gather_each.ensures.few, c.in_order.ensures.few);
}
