use Rattle.std.proofs.Common.{◌++◌, ap}
use Rattle.settings_core.specs.Values.{ExtruderSettingsValue}
use Rattle.gcode_text.specs.Lines.{travel_of}
use Rattle.gcode_write.specs.Paths.{retraction_of, retraction_end_of}
use Rattle.outside.specs.Pens.{Wrote}
use Rattle.gcode_write.proofs.moves.put_approach.Goals as goal

pub returns : goal.returns
returns g c =
    let out = g.S.Sink.output in
    let laws = c.pens_add_up.ensures in
    let p0 = c.args.pen.now in
    let p1 = c.put_retraction.new.pen in
    let t1 = retraction_of c.args.x.now c.args.retract c.args.volume in
    let w1 : Wrote out p0 t1 p1 = c.put_retraction.ensures in
    let p2 = c.put_travel.new.pen in
    let t2 = travel_of c.args.x.now.speed_travel c.args.to c.args.z in
    let w2 : Wrote out p1 t2 p2 = laws.same p1 p2 (travel_of c.x.inside.speed_travel c.args.to c.args.z) t2 (ap (λ (v : ExtruderSettingsValue). travel_of v.speed_travel c.args.to c.args.z) c.x.view_is) c.put_travel.ensures in
    let p3 = c.put_retraction_end.new.pen in
    let t3 = retraction_end_of c.args.x.now c.args.retract c.args.volume in
    let w3 : Wrote out p2 t3 p3 = c.put_retraction_end.ensures in
    let a2 : Wrote out p0 (t1 ++ t2) p2 = laws.append p0 p1 p2 t1 t2 w1 w2 in
    let a3 : Wrote out p0 (t1 ++ t2 ++ t3) p3 = laws.append p0 p2 p3 (t1 ++ t2) t3 a2 w3 in
    a3
