use Rattle.std.proofs.Common.{◌+◌, ◌∙◌, drop, Some, None, ap, subst, sym, arith}
use Rattle.std.proofs.Math.ListN.{drop_of_length-le}
use Rattle.plan_types.specs.Paths.{PathValue}
use Rattle.plan_types.specs.Plans.{volume_of}
use Rattle.gcode_write.specs.Layers.{paths_of, after_paths}
use Rattle.gcode_write.proofs.Points.{sum_here}
use Rattle.gcode_write.proofs.Walks.{WrotePaths, path_step, time_of}
use Rattle.gcode_write.proofs.layers.put_paths.Goals as goal

pub put_path-now-requires-clause-volume : goal.put_path-now-requires-clause-volume
put_path-now-requires-clause-volume g c =
    let l = c.loop-path in
    omega (arith, c.requires.volume, l.invariant.volume, sum_here volume_of c.args.paths.now l.path-index c.path-item.result c.loop-path-test.true c.path-item.is)

pub put_path-now-requires-clause-elapsed : goal.put_path-now-requires-clause-elapsed
put_path-now-requires-clause-elapsed g c =
    let l = c.loop-path in
    omega (arith, c.requires.elapsed, l.invariant.elapsed, sum_here time_of c.args.paths.now l.path-index c.path-item.result c.loop-path-test.true c.path-item.is)

pub loop-path-preserved : goal.loop-path-preserved
loop-path-preserved g c =
    let out = g.S.Sink.output in
    let l = c.loop-path in
    let es = c.args.extruders.now in
    let layer = c.args.layer.now in
    let ps = c.args.paths.now in
    let d = c.put_path-now.new.pen in
    let r = c.put_path-now.result in
    let e = c.put_path-now.ensures in
    subst (λ (v : PathValue). WrotePaths out es layer c.args.progress c.args.e c.args.at ps c.args.pen.now (l.path-index + 1) r (l.next + 1) (Some v.kind) d) (sym c.path.view_is)
    (path_step out c.pens_add_up.ensures es layer c.args.progress c.args.e c.args.at ps c.args.pen.now l.path-index l.now l.next l.kind l.pen c.path-item.result r d
    c.requires.known c.loop-path-test.true c.path-item.is l.invariant e.wrote e.after e.volume e.moves)

pub returns : goal.returns
returns g c =
    let l = c.loop-path in
    let i = l.invariant in
    let es = c.args.extruders.now in
    let layer = c.args.layer.now in
    let ps = c.args.paths.now in
    let text = paths_of es layer l.now c.args.e l.next l.kind in
    let past = drop_of_length-le ps c.loop-path-test.false in
    record {
      wrote = c.pens_add_up.ensures.last c.args.pen.now l.pen (paths_of es layer c.args.progress c.args.e c.args.at None ps) (text (drop l.path-index ps)) i.going (ap text past);
      after = sym (ap (after_paths es l.now c.args.e) past) ∙ i.after;
      known = i.known;
      volume = omega (arith, i.volume);
      elapsed = omega (arith, i.elapsed);
      few = omega (arith, i.moves, c.loop-path-test.false);
    }
