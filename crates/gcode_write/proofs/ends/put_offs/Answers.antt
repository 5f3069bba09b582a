use Rattle.std.proofs.Common.{◌+◌, drop, get_or, ap}
use Rattle.std.proofs.lemmas.List.{drop_more}
use Rattle.std.proofs.Math.ListN.{drop_of_length-le}
use Rattle.gcode_write.specs.Ends.{off_of, offs_of}
use Rattle.gcode_write.proofs.ends.put_offs.Goals as goal

pub loop-e-init : goal.loop-e-init
loop-e-init g c = c.pens_add_up.ensures.start c.args.pen.now (offs_of c.args.job.now c.args.extruders.now)

pub loop-e-preserved : goal.loop-e-preserved
loop-e-preserved g c =
    let l = c.loop-e in
    let xs = c.args.extruders.now in
    let i = l.e-index in
    let text = offs_of c.args.job.now in
    c.pens_add_up.ensures.step c.args.pen.now l.pen c.put_off.new.pen (text xs) (text (drop i xs)) (off_of c.args.job.now (get_or xs i 0)) (text (drop (i + 1) xs)) l.invariant (ap text (drop_more xs i 0 c.loop-e-test.true)) c.put_off.ensures

pub returns : goal.returns
returns g c =
    let l = c.loop-e in
    let xs = c.args.extruders.now in
    let text = offs_of c.args.job.now in
    c.pens_add_up.ensures.last c.args.pen.now l.pen (text xs) (text (drop l.e-index xs)) l.invariant (ap text (drop_of_length-le xs c.loop-e-test.false))
