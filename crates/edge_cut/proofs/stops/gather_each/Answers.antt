use Rattle.std.proofs.Common.{◌≤◌, length, arith}
use Rattle.edge_cut.specs.Inner.Gathered.{gathered}
use Rattle.edge_cut.proofs.Read.{gather-step, gather-end}
use Rattle.edge_cut.proofs.stops.gather_each.Goals as goal

pub loop-m-preserved : goal.loop-m-preserved
loop-m-preserved c = record {
  few = omega (arith, c.push_meeting.ensures.few, c.loop-m.invariant.few);
  so_far = gather-step c.args.e c.args.all.now c.loop-m.m-index c.loop-m.stops.items c.push_meeting.new.stops.items (gathered c.args.e c.args.all.now) c.loop-m-test.true c.in_ok-push_meeting.ensures.ok c.loop-m.invariant.so_far;
}

pub returns : goal.returns
returns c =
    let over : length c.args.all.now ≤ c.loop-m.m-index = omega (arith, c.loop-m-test.false) in
    record {
      ok = gather-end c.args.e c.args.all.now c.loop-m.m-index c.loop-m.stops.items (gathered c.args.e c.args.all.now) over c.loop-m.invariant.so_far;
      few = omega (arith, c.loop-m.invariant.few);
    }
