use Rattle.std.proofs.Common.{◌++◌, ◌==◌}
use Rattle.gcode_write.specs.Paths.{leave_of, inserts_of, enter_of}
use Rattle.outside.specs.Pens.{Wrote}
use Rattle.gcode_write.proofs.paths.put_boundary.Goals as goal

pub returns : goal.returns
returns g c =
    let out = g.S.Sink.output in
    let laws = c.pens_add_up.ensures in
    let p0 = c.args.pen.now in
    let p1 = c.put_leave.new.pen in
    let t1 = leave_of c.args.extruders.now (c.args.from == c.args.e) c.args.from in
    let w1 : Wrote out p0 t1 p1 = c.put_leave.ensures in
    let p2 = c.put_inserts.new.pen in
    let t2 = inserts_of c.args.at c.args.inserts.now in
    let w2 : Wrote out p1 t2 p2 = c.put_inserts.ensures in
    let p3 = c.put_enter.new.pen in
    let t3 = enter_of c.args.extruders.now (c.args.from == c.args.e) c.args.e in
    let w3 : Wrote out p2 t3 p3 = c.put_enter.ensures in
    let a2 : Wrote out p0 (t1 ++ t2) p2 = laws.append p0 p1 p2 t1 t2 w1 w2 in
    let a3 : Wrote out p0 (t1 ++ t2 ++ t3) p3 = laws.append p0 p2 p3 (t1 ++ t2) t3 a2 w3 in
    a3
