use Rattle.std.proofs.Common.{rules, ◌≡◌, ◌++◌, ◌+◌, ◌∷◌, [], true, List, ℕ, drop, get_or, sym, ap, ◌∙◌}
use Rattle.std.proofs.lemmas.List.{drop_more}
use Rattle.plan_types.specs.declared.plans.ExtruderPlan.{ExtruderPlan}
use Rattle.layer_plan.specs.Plan.{drawn_plans}
use Rattle.layer_plan.proofs.Drawings.{drawn_plans-more}
use Rattle.layer_plan.proofs.Volumes.{plans-more}
use Rattle.layer_plan.proofs.planning.drawn_plans.Goals as goal

pub loop-e-preserved : goal.loop-e-preserved
loop-e-preserved c =
    let job = c.args.job.now in
    let xs = c.args.extruders.now in
    let i = c.loop-e.e-index in
    let x = get_or xs i 0 in
    let d = c.in_ok-drawing.drawing in
    let plan : ExtruderPlan = record { extruder = x; paths = d.paths } in
    let pushed : c.push.new.self ≡ c.loop-e.plans ++ plan ∷ [] = search rules in
    let rest = drop_more xs i 0 c.loop-e-test.true in
    record {
      at_in = c.in_ok-drawing.ensures.drawing.at_in;
      drawn = plans-more c.loop-e.plans c.push.new.self d x pushed c.in_ok-drawing.ensures.drawing c.loop-e.invariant.drawn;
      so_far = drawn_plans-more job c.args.sheet c.args.areas.now c.loop-e.is_first c.loop-e.at x (drop (i + 1) xs) c.loop-e.plans c.push.new.self (drawn_plans job c.args.sheet c.args.areas.now true c.args.start xs) d c.in_ok-drawing.ensures.exact pushed
          (ap (λ (ys : List ℕ). c.loop-e.plans ++ drawn_plans job c.args.sheet c.args.areas.now c.loop-e.is_first c.loop-e.at ys) (sym rest) ∙ c.loop-e.invariant.so_far);
    }
