use Rattle.std.proofs.Common.{ℕ, ◌≤◌, ◌<◌, ◌+◌, List, length, get_or, take, Option, arith, sym, subst}
use Rattle.std.specs.List.{All}
use Rattle.std.proofs.lemmas.List.{take_all}
use Rattle.path_order.specs.declared.starts.Start.{Start}
use Rattle.path_order.specs.declared.choices.Choice.{Choice}
use Rattle.path_order.specs.Inner.Remaining.{no_start}
use Rattle.path_order.specs.Inner.Squares.{IsFound, Beats}
use Rattle.path_order.proofs.Nearest.{considered-found, considered-keeps}
use Rattle.path_order.proofs.Looking.{seen-more}
use Rattle.path_order.proofs.grid.look_in.Goals as goal

pub loop-k-preserved : goal.loop-k-preserved
loop-k-preserved c =
    let ms = c.args.gone.now in
    let at = c.args.at in
    let ss = c.args.starts.now in
    let ks = c.args.numbers.now in
    let i = c.loop-k.k-index in
    let e = c.considered-found.ensures in
    let within : get_or ks i 0 < length ss = c.requires.known i 0 c.loop-k-test.true in
    record {
      found = subst (λ (o : Option Choice). IsFound ms at ss o) (sym e) (considered-found ms at ss c.loop-k.found (get_or ks i 0) within c.loop-k.invariant.found);
      kept = λ s h. subst (λ (o : Option Choice). Beats ms at o s) (sym e) (considered-keeps ms at c.loop-k.found (get_or ss (get_or ks i 0) no_start) s (c.loop-k.invariant.kept s h));
      seen = subst (λ (o : Option Choice). All (λ j. Beats ms at o (get_or ss j no_start)) (take (i + 1) ks)) (sym e) (seen-more ms at ss c.loop-k.found ks i c.loop-k-test.true c.loop-k.invariant.seen);
    }

pub returns-clause-seen : goal.returns-clause-seen
returns-clause-seen c =
    let ks = c.args.numbers.now in
    let past : length ks ≤ c.loop-k.k-index = omega arith in
    subst (λ (js : List ℕ). All (λ j. Beats c.args.gone.now c.args.at c.loop-k.found (get_or c.args.starts.now j no_start)) js) (take_all c.loop-k.k-index ks past) c.loop-k.invariant.seen
