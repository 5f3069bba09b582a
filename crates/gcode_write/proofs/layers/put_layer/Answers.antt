use Rattle.std.proofs.Common.{◌++◌, ◌==◌, ◌≡◌, ap, ◌∙◌}
use Rattle.plan_types.specs.Plans.{LayerPlanValue}
use Rattle.gcode_text.specs.Lines.{count_of, elapsed_of}
use Rattle.gcode_text.specs.declared.labels.Counted.TheVariants.{Layer}
use Rattle.gcode_write.specs.declared.progress.Progress.{Progress}
use Rattle.gcode_write.specs.Layers.{fan_change_of, plans_of, entered_of, after_plans, after_layer}
use Rattle.outside.specs.Pens.{Wrote}
use Rattle.gcode_write.proofs.layers.put_layer.Goals as goal

pub returns-clause-wrote : goal.returns-clause-wrote
returns-clause-wrote g c =
    let out = g.S.Sink.output in
    let laws = c.pens_add_up.ensures in
    let p0 = c.args.pen.now in
    let es = c.args.extruders.now in
    let l = c.args.layer.now in
    let s = c.args.progress in
    let plans : c.items.result.now ≡ l.plans = c.items.ensures ∙ ap (λ (v : LayerPlanValue). v.plans) c.layer.view_is in
    let p1 = c.put_count.new.pen in
    let t1 = count_of Layer l.number in
    let w1 : Wrote out p0 t1 p1 = laws.same p0 p1 (count_of Layer c.from.result) t1 (ap (count_of Layer) (c.from.ensures ∙ ap (λ (v : LayerPlanValue). v.number) c.layer.view_is)) c.put_count.ensures in
    let p2 = c.put_fan_change.new.pen in
    let t2 = fan_change_of (s.fan == l.fan) l.fan in
    let w2 : Wrote out p1 t2 p2 = laws.same p1 p2 (fan_change_of (s.fan == c.layer.inside.fan) c.layer.inside.fan) t2 (ap (λ (v : LayerPlanValue). fan_change_of (s.fan == v.fan) v.fan) c.layer.view_is) c.put_fan_change.ensures in
    let p3 = c.put_plans-after.new.pen in
    let t3 = plans_of es l (entered_of s l) 0 l.plans in
    let w3 : Wrote out p2 t3 p3 = laws.same p2 p3 (plans_of es l c.entered-begun.result 0 c.items.result.now) t3 (ap (λ (b : Progress). plans_of es l b 0 c.items.result.now) c.entered-begun.ensures.entered ∙ ap (plans_of es l (entered_of s l) 0) plans) c.put_plans-after.ensures.wrote in
    let p4 = c.put_elapsed.new.pen in
    let t4 = elapsed_of (after_layer es s l).elapsed in
    let w4 : Wrote out p3 t4 p4 = laws.same p3 p4 (elapsed_of c.put_plans-after.result.elapsed) t4 (ap (λ (b : Progress). elapsed_of b.elapsed) (c.put_plans-after.ensures.after ∙ ap (λ (b : Progress). after_plans es b c.items.result.now) c.entered-begun.ensures.entered ∙ ap (after_plans es (entered_of s l)) plans)) c.put_elapsed.ensures in
    let a2 : Wrote out p0 (t1 ++ t2) p2 = laws.append p0 p1 p2 t1 t2 w1 w2 in
    let a3 : Wrote out p0 (t1 ++ t2 ++ t3) p3 = laws.append p0 p2 p3 (t1 ++ t2) t3 a2 w3 in
    let a4 : Wrote out p0 (t1 ++ t2 ++ t3 ++ t4) p4 = laws.append p0 p3 p4 (t1 ++ t2 ++ t3) t4 a3 w4 in
    a4
