use Rattle.std.proofs.Common.{◌≡◌, ◌+◌, ◌-◌, ◌++◌, ◌∙◌, List, length, ap, sym, subst, arith, eqb-true}
use Rattle.std.specs.List.{All}
use Rattle.std.proofs.lemmas.List.Elements.{All-tail}
use Rattle.plan_types.specs.Jobs.{JobValue}
use Rattle.plan_types.specs.Plans.{LayerPlanValue}
use Rattle.gcode_write.specs.Layers.{layer_text_of}
use Rattle.preheat_plan.specs.Completed.{KnowsItsExtruders}
use Rattle.plan_buffer.specs.Accepted.{HasWritten}
use Rattle.plan_buffer.proofs.Accepts.{all_on}
use Rattle.plan_buffer.proofs.writing.write_all.Goals as goal

pub held-preserved : goal.held-preserved
held-preserved g c =
    let out = g.S.Sink.output in
    let inv = c.held.invariant in
    let w = c.held.writer in
    let win = c.held.window in
    let d = c.write_oldest.new.writer in
    let e = c.write_oldest.ensures in
    let new = c.write_oldest.new.window in
    let whole = length c.args.window.now.held.plans in
    let Known = KnowsItsExtruders (length w.job.now.settings.extruders) in
    let parts : length win.held.plans ≡ length new.held.plans + 1 = ap (λ (ls : List LayerPlanValue). length ls) e.oldest.parts ∙ omega arith in
    record {
      known = subst (λ (j : JobValue). All (KnowsItsExtruders (length j.settings.extruders)) new.held.plans) (sym e.job) (All-tail Known e.oldest.oldest new.held.plans (subst (All Known) e.oldest.parts inv.known));
      all = λ past n h. all_on c.windows_follow.ensures out w.job.now d.job.now past n whole win.held new.held w.progress d.progress w.pen d.pen inv.fewer e.oldest e.job (inv.all past n h);
      some = record { text = inv.some.text ++ layer_text_of w.job.now.settings.extruders w.progress e.oldest.oldest; wrote = c.pens_add_up.ensures.append c.args.writer.now.pen w.pen d.pen inv.some.text (layer_text_of w.job.now.settings.extruders w.progress e.oldest.oldest) inv.some.wrote e.oldest.wrote };
      job = e.job ∙ inv.job;
      fewer = omega (arith, parts, inv.fewer);
      layers = omega (arith, parts, inv.layers, e.layers);
      taken = e.taken ∙ inv.taken;
    }

pub returns-clause-all : goal.returns-clause-all
returns-clause-all g c = λ past n h.
    let out = g.S.Sink.output in
    let l = c.held in
    let whole = length c.args.window.now.held.plans in
    let none : length c.plans.result.now ≡ 0 = eqb-true (length c.plans.result.now) 0 (sym c.is_empty.ensures ∙ c.held-test.false) in
    let left : length l.window.held.plans ≡ 0 = ap (λ (ls : List LayerPlanValue). length ls) (sym c.plans.ensures.value) ∙ none in
    let same : n + (whole - length l.window.held.plans) ≡ n + whole = omega (arith, left) in
    subst (λ k. HasWritten out c.args.writer.now.job.now past k l.window.held l.writer.progress l.writer.pen) same
    (subst (λ (j : JobValue). HasWritten out j past (n + (whole - length l.window.held.plans)) l.window.held l.writer.progress l.writer.pen) l.invariant.job (l.invariant.all past n h))
