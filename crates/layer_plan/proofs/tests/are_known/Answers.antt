use Rattle.std.proofs.Common.{rules, ◌<◌, ◌≤◌, length, get_or, List, ℕ, arith, subst}
use Rattle.std.specs.List.{All}
use Rattle.std.proofs.lemmas.List.{take_all}
use Rattle.std.proofs.lemmas.List.Elements.{All-more}
use Rattle.layer_plan.proofs.tests.are_known.Goals as goal

pub loop-e-preserved : goal.loop-e-preserved
loop-e-preserved c =
    let xs = c.args.order.now in
    let i = c.loop-e.e-index in
    let here : get_or xs i 0 < c.args.count = search rules in
    All-more (λ e. e < c.args.count) xs i 0 c.loop-e-test.true c.loop-e.invariant here

pub returns : goal.returns
returns c =
    let xs = c.args.order.now in
    let past : length xs ≤ c.loop-e.e-index = omega arith in
    λ yes. subst (λ (ys : List ℕ). All (λ e. e < c.args.count) ys) (take_all c.loop-e.e-index xs past) c.loop-e.invariant
