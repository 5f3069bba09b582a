use Rattle.std.proofs.Common.{◌≤◌, ◌+◌, ◌*◌, length, get_or, ◌∙◌}
use Rattle.edge_cut.specs.Inner.Indices.{nothing}
use Rattle.edge_cut.proofs.Compared.{any-default}
use Rattle.edge_cut.proofs.Told.{told-settled}
use Rattle.edge_cut.proofs.Counts.{so_far-step, count-each}
use Rattle.edge_cut.proofs.passes.cut_by_each.Goals as goal

pub loop-m-preserved : goal.loop-m-preserved
loop-m-preserved c =
    let m = get_or c.args.all.now c.loop-m.m-index nothing in
    let adds = rw c.as_slice.ensures.value at c.in_ok-add_pieces.ensures.ok in
    let adds_stops = rw c.in_ok-stops_by_each.ensures.ok at adds in
    let few : length c.stops_by_each.new.stops.items ≤ 2 * length c.args.all.now + 2 = c.in_ok-stops_by_each.ensures.few in
    record {
      small = count-each c.args.all.now c.loop-m.m-index c.loop-m.pieces c.add_pieces.new.pieces m.second c.stops_by_each.new.stops.items few c.requires adds c.loop-m.invariant.small;
      so_far = so_far-step c.args.all.now c.loop-m.m-index c.loop-m.pieces c.add_pieces.new.pieces c.loop-m-test.true adds_stops c.loop-m.invariant.so_far;
      told = c.in_ok-add_pieces.ensures.told c.args.all.now (c.loop-m.m-index, c.loop-m-test.true, any-default c.args.all.now c.loop-m.m-index m nothing c.loop-m-test.true) (c.as_slice.ensures.value ∙ c.in_ok-stops_by_each.ensures.ok) c.loop-m.invariant.told;
    }

pub returns-clause-settled : goal.returns-clause-settled
returns-clause-settled c = told-settled c.args.all.now c.loop-m.pieces.list.items c.loop-m.pieces.news.items c.loop-m.invariant.told
