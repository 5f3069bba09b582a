use Rattle.edge_cut.proofs.Enough.{stops_of-enough}
use Rattle.edge_cut.proofs.laws.some_edges_give_all_stops.Goals as goal

pub returns : goal.returns
returns c = stops_of-enough c.args.e c.args.some.now c.args.all.now c.requires.within c.requires.enough
