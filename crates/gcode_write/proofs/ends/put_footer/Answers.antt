use Rattle.std.proofs.Common.{◌++◌, ap}
use Rattle.gcode_text.specs.Lines.{blow_of}
use Rattle.plan_types.specs.Orders.{all_extruders}
use Rattle.gcode_write.specs.Ends.{offs_of, bed_off_of}
use Rattle.outside.specs.Pens.{Wrote}
use Rattle.gcode_write.proofs.ends.put_footer.Goals as goal

pub returns : goal.returns
returns g c =
    let out = g.S.Sink.output in
    let laws = c.pens_add_up.ensures in
    let p0 = c.args.pen.now in
    let job = c.args.job.now in
    let p1 = c.put_offs.new.pen in
    let t1 = offs_of job all_extruders in
    let w1 : Wrote out p0 t1 p1 = c.put_offs.ensures in
    let p2 = c.put_bed_off.new.pen in
    let t2 = bed_off_of job.settings.material_bed_temperature in
    let w2 : Wrote out p1 t2 p2 = laws.same p1 p2 (bed_off_of c.bed_degrees.result) t2 (ap bed_off_of c.bed_degrees.ensures.degrees) c.put_bed_off.ensures in
    let p3 = c.put_blow.new.pen in
    let t3 = blow_of 0 in
    let w3 : Wrote out p2 t3 p3 = c.put_blow.ensures in
    let p4 = c.put.new.self in
    let t4 = job.settings.machine_end_gcode in
    let w4 : Wrote out p3 t4 p4 = laws.same p3 p4 c.end_code.result.now t4 c.end_code.ensures c.put.ensures in
    let a2 : Wrote out p0 (t1 ++ t2) p2 = laws.append p0 p1 p2 t1 t2 w1 w2 in
    let a3 : Wrote out p0 (t1 ++ t2 ++ t3) p3 = laws.append p0 p2 p3 (t1 ++ t2) t3 a2 w3 in
    let a4 : Wrote out p0 (t1 ++ t2 ++ t3 ++ t4) p4 = laws.append p0 p3 p4 (t1 ++ t2 ++ t3) t4 a3 w4 in
    a4
