use Rattle.std.proofs.Common.{arith}
use Rattle.edge_cut.proofs.Read.{stops-told}
use Rattle.edge_cut.proofs.stops.stops_of.Goals as goal

pub returns : goal.returns
returns c = record {
  ok = λ all index told. stops-told c.args.e all index c.args.some.now c.gather.new.stops.items c.in_order.new.stops.items told c.in_ok-gather.ensures.ok c.in_order.ensures.rising c.in_order.ensures.kept c.in_order.ensures.only;
  few = omega (arith, c.in_ok-gather.ensures.few, c.in_order.ensures.few);
}
