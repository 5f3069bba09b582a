use Rattle.std.proofs.Common.{◌++◌, ap, length}
use Rattle.gcode_text.specs.Lines.{blow_of, plain_of, count_of, tool_of}
use Rattle.gcode_text.specs.declared.labels.FixedLine.TheVariants.{Flavor, Millimetres, Absolute, AbsoluteE, ZeroE}
use Rattle.gcode_text.specs.declared.labels.Counted.TheVariants.{OpenOutlines, LayerCount}
use Rattle.gcode_write.specs.Ends.{heating_of}
use Rattle.outside.specs.Pens.{Wrote}
use Rattle.gcode_write.proofs.ends.put_header.Goals as goal

pub returns : goal.returns
returns g c =
    let out = g.S.Sink.output in
    let laws = c.pens_add_up.ensures in
    let p0 = c.args.pen.now in
    let job = c.args.job.now in
    let p1 = c.put_plain.new.pen in
    let t1 = plain_of Flavor in
    let w1 : Wrote out p0 t1 p1 = c.put_plain.ensures in
    let p2 = c.put_count.new.pen in
    let t2 = count_of OpenOutlines job.open_outlines in
    let w2 : Wrote out p1 t2 p2 = laws.same p1 p2 (count_of OpenOutlines c.open_outlines.result) t2 (ap (count_of OpenOutlines) c.open_outlines.ensures) c.put_count.ensures in
    let p3 = c.put_heating.new.pen in
    let t3 = heating_of job in
    let w3 : Wrote out p2 t3 p3 = c.put_heating.ensures in
    let p4 = c.put.new.self in
    let t4 = job.settings.machine_start_gcode in
    let w4 : Wrote out p3 t4 p4 = laws.same p3 p4 c.start_code.result.now t4 c.start_code.ensures c.put.ensures in
    let p5 = c.put_plain-2.new.pen in
    let t5 = plain_of Millimetres in
    let w5 : Wrote out p4 t5 p5 = c.put_plain-2.ensures in
    let p6 = c.put_plain-3.new.pen in
    let t6 = plain_of Absolute in
    let w6 : Wrote out p5 t6 p6 = c.put_plain-3.ensures in
    let p7 = c.put_plain-4.new.pen in
    let t7 = plain_of AbsoluteE in
    let w7 : Wrote out p6 t7 p7 = c.put_plain-4.ensures in
    let p8 = c.put_tool.new.pen in
    let t8 = tool_of job.first in
    let w8 : Wrote out p7 t8 p8 = laws.same p7 p8 (tool_of c.first.result) t8 (ap tool_of c.first.ensures.first) c.put_tool.ensures in
    let p9 = c.put_plain-5.new.pen in
    let t9 = plain_of ZeroE in
    let w9 : Wrote out p8 t9 p9 = c.put_plain-5.ensures in
    let p10 = c.put_blow.new.pen in
    let t10 = blow_of 0 in
    let w10 : Wrote out p9 t10 p10 = c.put_blow.ensures in
    let p11 = c.put_count-2.new.pen in
    let t11 = count_of LayerCount (length job.layers) in
    let w11 : Wrote out p10 t11 p11 = laws.same p10 p11 (count_of LayerCount c.layer_count.result) t11 (ap (count_of LayerCount) c.layer_count.ensures) c.put_count-2.ensures in
    let a2 : Wrote out p0 (t1 ++ t2) p2 = laws.append p0 p1 p2 t1 t2 w1 w2 in
    let a3 : Wrote out p0 (t1 ++ t2 ++ t3) p3 = laws.append p0 p2 p3 (t1 ++ t2) t3 a2 w3 in
    let a4 : Wrote out p0 (t1 ++ t2 ++ t3 ++ t4) p4 = laws.append p0 p3 p4 (t1 ++ t2 ++ t3) t4 a3 w4 in
    let a5 : Wrote out p0 (t1 ++ t2 ++ t3 ++ t4 ++ t5) p5 = laws.append p0 p4 p5 (t1 ++ t2 ++ t3 ++ t4) t5 a4 w5 in
    let a6 : Wrote out p0 (t1 ++ t2 ++ t3 ++ t4 ++ t5 ++ t6) p6 = laws.append p0 p5 p6 (t1 ++ t2 ++ t3 ++ t4 ++ t5) t6 a5 w6 in
    let a7 : Wrote out p0 (t1 ++ t2 ++ t3 ++ t4 ++ t5 ++ t6 ++ t7) p7 = laws.append p0 p6 p7 (t1 ++ t2 ++ t3 ++ t4 ++ t5 ++ t6) t7 a6 w7 in
    let a8 : Wrote out p0 (t1 ++ t2 ++ t3 ++ t4 ++ t5 ++ t6 ++ t7 ++ t8) p8 = laws.append p0 p7 p8 (t1 ++ t2 ++ t3 ++ t4 ++ t5 ++ t6 ++ t7) t8 a7 w8 in
    let a9 : Wrote out p0 (t1 ++ t2 ++ t3 ++ t4 ++ t5 ++ t6 ++ t7 ++ t8 ++ t9) p9 = laws.append p0 p8 p9 (t1 ++ t2 ++ t3 ++ t4 ++ t5 ++ t6 ++ t7 ++ t8) t9 a8 w9 in
    let a10 : Wrote out p0 (t1 ++ t2 ++ t3 ++ t4 ++ t5 ++ t6 ++ t7 ++ t8 ++ t9 ++ t10) p10 = laws.append p0 p9 p10 (t1 ++ t2 ++ t3 ++ t4 ++ t5 ++ t6 ++ t7 ++ t8 ++ t9) t10 a9 w10 in
    let a11 : Wrote out p0 (t1 ++ t2 ++ t3 ++ t4 ++ t5 ++ t6 ++ t7 ++ t8 ++ t9 ++ t10 ++ t11) p11 = laws.append p0 p10 p11 (t1 ++ t2 ++ t3 ++ t4 ++ t5 ++ t6 ++ t7 ++ t8 ++ t9 ++ t10) t11 a10 w11 in
    a11
