use Rattle.std.proofs.Common.{◌++◌, ◌∙◌, true, false, ap}
use Rattle.gcode_text.specs.Lines.{heat_of}
use Rattle.plan_types.specs.Orders.{all_extruders}
use Rattle.gcode_write.specs.Ends.{bed_heating_of, standbys_of, print_degrees_of}
use Rattle.outside.specs.Pens.{Wrote}
use Rattle.gcode_write.proofs.ends.put_heating.Goals as goal

pub returns : goal.returns
returns g c =
    let out = g.S.Sink.output in
    let laws = c.pens_add_up.ensures in
    let p0 = c.args.pen.now in
    let job = c.args.job.now in
    let first = c.first-first.result in
    let p1 = c.put_bed_heating.new.pen in
    let t1 = bed_heating_of false job.settings.material_bed_temperature in
    let w1 : Wrote out p0 t1 p1 = laws.same p0 p1 (bed_heating_of false c.bed_degrees-bed.result) t1 (ap (bed_heating_of false) c.bed_degrees-bed.ensures.degrees) c.put_bed_heating.ensures in
    let p2 = c.put_heat.new.pen in
    let t2 = heat_of false job.first (print_degrees_of job job.first) in
    let w2 : Wrote out p1 t2 p2 = laws.same p1 p2 (heat_of false first c.print_degrees-print.result) t2 (ap (heat_of false first) c.print_degrees-print.ensures ∙ ap (λ e. heat_of false e (print_degrees_of job e)) c.first-first.ensures.first) c.put_heat.ensures in
    let p3 = c.put_standbys.new.pen in
    let t3 = standbys_of job all_extruders in
    let w3 : Wrote out p2 t3 p3 = c.put_standbys.ensures in
    let p4 = c.put_bed_heating-2.new.pen in
    let t4 = bed_heating_of true job.settings.material_bed_temperature in
    let w4 : Wrote out p3 t4 p4 = laws.same p3 p4 (bed_heating_of true c.bed_degrees-bed.result) t4 (ap (bed_heating_of true) c.bed_degrees-bed.ensures.degrees) c.put_bed_heating-2.ensures in
    let p5 = c.put_heat-2.new.pen in
    let t5 = heat_of true job.first (print_degrees_of job job.first) in
    let w5 : Wrote out p4 t5 p5 = laws.same p4 p5 (heat_of true first c.print_degrees-print.result) t5 (ap (heat_of true first) c.print_degrees-print.ensures ∙ ap (λ e. heat_of true e (print_degrees_of job e)) c.first-first.ensures.first) c.put_heat-2.ensures in
    let a2 : Wrote out p0 (t1 ++ t2) p2 = laws.append p0 p1 p2 t1 t2 w1 w2 in
    let a3 : Wrote out p0 (t1 ++ t2 ++ t3) p3 = laws.append p0 p2 p3 (t1 ++ t2) t3 a2 w3 in
    let a4 : Wrote out p0 (t1 ++ t2 ++ t3 ++ t4) p4 = laws.append p0 p3 p4 (t1 ++ t2 ++ t3) t4 a3 w4 in
    let a5 : Wrote out p0 (t1 ++ t2 ++ t3 ++ t4 ++ t5) p5 = laws.append p0 p4 p5 (t1 ++ t2 ++ t3 ++ t4) t5 a4 w5 in
    a5
