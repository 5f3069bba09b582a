use Rattle.std.proofs.Common.{◌+◌, ◌*◌, ◌∙◌, ◌<◌, ◌≡◌, ◌≤◌, List, drop, length, None, ap, subst, sym, arith}
use Rattle.std.specs.List.{sum_by}
use Rattle.std.proofs.lemmas.List.Elements.{All-get_or}
use Rattle.std.proofs.Math.ListN.{drop_of_length-le}
use Rattle.plan_types.specs.declared.plans.ExtruderPlan.{ExtruderPlan}
use Rattle.plan_types.specs.Paths.{PathValue}
use Rattle.plan_types.specs.Plans.{moves_of, moves_of_plan, volume_of, volume_of_plan, time_of_plan}
use Rattle.gcode_write.specs.Layers.{plans_of, paths_of, after_plans, after_paths}
use Rattle.gcode_write.proofs.Points.{sum_here}
use Rattle.gcode_write.proofs.Walks.{WrotePlans, plan_step, time_of}
use Rattle.gcode_write.proofs.layers.put_plans.Goals as goal

pub put_paths-now-requires-clause-known : goal.put_paths-now-requires-clause-known
put_paths-now-requires-clause-known g c =
    let xs = c.args.plans.now in
    let x = c.plan-item.result in
    let names = λ (p : ExtruderPlan). p.extruder < length c.args.extruders.now in
    subst names (sym c.plan-item.is) (All-get_or names xs c.loop-plan.plan-index x c.loop-plan-test.true c.requires.known)

pub put_paths-now-requires-clause-volume : goal.put_paths-now-requires-clause-volume
put_paths-now-requires-clause-volume g c =
    let l = c.loop-plan in
    omega (arith, c.requires.volume, l.invariant.volume, ap (sum_by volume_of) c.items-paths.ensures, sum_here volume_of_plan c.args.plans.now l.plan-index c.plan-item.result c.loop-plan-test.true c.plan-item.is)

pub put_paths-now-requires-clause-elapsed : goal.put_paths-now-requires-clause-elapsed
put_paths-now-requires-clause-elapsed g c =
    let l = c.loop-plan in
    omega (arith, c.requires.elapsed, l.invariant.elapsed, ap (sum_by time_of) c.items-paths.ensures, sum_here time_of_plan c.args.plans.now l.plan-index c.plan-item.result c.loop-plan-test.true c.plan-item.is)

pub put_paths-now-requires-clause-few : goal.put_paths-now-requires-clause-few
put_paths-now-requires-clause-few g c =
    let l = c.loop-plan in
    omega (arith, c.requires.few, l.invariant.moves, ap (sum_by moves_of) c.items-paths.ensures, sum_here moves_of_plan c.args.plans.now l.plan-index c.plan-item.result c.loop-plan-test.true c.plan-item.is)

pub loop-plan-preserved : goal.loop-plan-preserved
loop-plan-preserved g c =
    let out = g.S.Sink.output in
    let laws = c.pens_add_up.ensures in
    let l = c.loop-plan in
    let es = c.args.extruders.now in
    let layer = c.args.layer.now in
    let xs = c.args.plans.now in
    let x = c.plan-item.result in
    let d = c.put_paths-now.new.pen in
    let r = c.put_paths-now.result in
    let e = c.put_paths-now.ensures in
    let ps = c.items-paths.ensures in
    let text = paths_of es layer l.now x.extruder l.next None in
    let grown : r.volume ≤ l.now.volume + 500 * volume_of_plan x = subst (λ (qs : List PathValue). r.volume ≤ l.now.volume + 500 * sum_by volume_of qs) ps e.volume in
    let later : r.elapsed ≤ l.now.elapsed + time_of_plan x = subst (λ (qs : List PathValue). r.elapsed ≤ l.now.elapsed + sum_by time_of qs) ps e.elapsed in
    let few : length x.paths ≤ moves_of_plan x = subst (λ (qs : List PathValue). length qs ≤ sum_by moves_of qs) ps e.few in
    subst (λ n. WrotePlans out es layer c.args.progress xs c.args.pen.now (l.plan-index + 1) r n d) (sym (ap (λ (qs : List PathValue). l.next + length qs) ps))
    (plan_step out laws es layer c.args.progress xs c.args.pen.now l.plan-index l.now l.next l.pen x r d c.loop-plan-test.true c.plan-item.is l.invariant
    (laws.same l.pen d (text c.items-paths.result.now) (text x.paths) (ap text ps) e.wrote)
    (e.after ∙ ap (λ (qs : List PathValue). after_paths es l.now x.extruder qs) ps) grown later e.known few)

pub returns : goal.returns
returns g c =
    let l = c.loop-plan in
    let i = l.invariant in
    let es = c.args.extruders.now in
    let layer = c.args.layer.now in
    let xs = c.args.plans.now in
    let text = plans_of es layer l.now l.next in
    let past = drop_of_length-le xs c.loop-plan-test.false in
    record {
      wrote = c.pens_add_up.ensures.last c.args.pen.now l.pen (plans_of es layer c.args.progress 0 xs) (text (drop l.plan-index xs)) i.going (ap text past);
      after = sym (ap (after_plans es l.now) past) ∙ i.after;
      known = i.known;
      volume = omega (arith, i.volume);
      elapsed = omega (arith, i.elapsed);
    }
