use Rattle.std.proofs.Common.{◌++◌, true}
use Rattle.gcode_text.specs.declared.labels.FixedLine.TheVariants.{ZeroE}
use Rattle.gcode_text.specs.Lines.{tool_of, heat_of, plain_of}
use Rattle.outside.specs.Pens.{Wrote}
use Rattle.gcode_write.proofs.paths.put_change.Goals as goal

pub returns : goal.returns
returns g c =
    let out = g.S.Sink.output in
    let laws = c.pens_add_up.ensures in
    let p0 = c.args.pen.now in
    let p1 = c.put_tool.new.pen in
    let t1 = tool_of c.args.e in
    let w1 : Wrote out p0 t1 p1 = c.put_tool.ensures in
    let p2 = c.put_heat.new.pen in
    let t2 = heat_of true c.args.e c.args.degrees in
    let w2 : Wrote out p1 t2 p2 = c.put_heat.ensures in
    let p3 = c.put_plain.new.pen in
    let t3 = plain_of ZeroE in
    let w3 : Wrote out p2 t3 p3 = c.put_plain.ensures in
    let a2 : Wrote out p0 (t1 ++ t2) p2 = laws.append p0 p1 p2 t1 t2 w1 w2 in
    let a3 : Wrote out p0 (t1 ++ t2 ++ t3) p3 = laws.append p0 p2 p3 (t1 ++ t2) t3 a2 w3 in
    a3
