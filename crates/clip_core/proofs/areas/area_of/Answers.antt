use Rattle.std.proofs.Common.{arith, ◌-◌, drop, take, length, slice_index_or, drop_of_length-le}
use Rattle.clip_core.specs.Areas.{area_of}
use Rattle.clip_core.proofs.Wedges.{origin, rest_of-step, rest_of-end}
use Rattle.clip_core.proofs.areas.area_of.Goals as goal

pub loop-q-preserved : goal.loop-q-preserved
loop-q-preserved c =
    let points = c.args.points.now in
    let others = take (length points - 1) (drop 1 points) in
    record {
      small = omega arith;
      so_far = rest_of-step (slice_index_or points 0 origin) c.loop-q.p others c.loop-q.q-index c.loop-q.sum.twice c.add_wedge-sum.result.twice (area_of points) (omega arith) c.add_wedge-sum.ensures.exact c.loop-q.invariant.so_far;
    }

pub returns : goal.returns
returns c =
    let points = c.args.points.now in
    let others = take (length points - 1) (drop 1 points) in
    let none = drop_of_length-le others c.loop-q-test.false in
    rest_of-end (slice_index_or points 0 origin) c.loop-q.p (drop c.loop-q.q-index others) c.loop-q.sum.twice c.add_wedge.result.twice (area_of points) none c.add_wedge.ensures.exact c.loop-q.invariant.so_far
