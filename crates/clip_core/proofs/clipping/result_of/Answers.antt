use Rattle.std.proofs.Common.{◌≤◌, List, length, arith, ap, sym, subst}
use Rattle.std.proofs.lemmas.Result.{IfOk-weaker}
use Rattle.slice_base.specs.declared.points.Pt.{Pt}
use Rattle.chain_core.specs.Ends.{AreOfEnds}
use Rattle.slice_base.specs.Regions.{points_in, HaveAtLeast, RegionIn}
use Rattle.clip_core.proofs.Sizes.{kept_of-le, tidied_chains-le}
use Rattle.clip_core.proofs.Corners.{tidied_chains-some}
use Rattle.clip_core.proofs.Reach.{tidied_chains-in}
use Rattle.clip_core.proofs.clipping.result_of.Goals as goal

pub returns-clause-few : goal.returns-clause-few
returns-clause-few c =
    let es = c.in_ok-edges.edges.items in
    let chains = c.in_ok-chains.chains in
    let count = rw c.as_slice.ensures.value at c.in_ok-chains.ensures.count in
    let kept = kept_of-le c.args.operation c.args.all.now in
    let same = ap length c.in_ok-edges.ensures in
    let few : length es ≤ 100000 = omega (arith, kept, same, c.requires) in
    IfOk-weaker c.tidied_chains.result _ _
    (λ region is. subst (λ (r : List (List Pt)). points_in r ≤ 150000) (sym is) (tidied_chains-le chains (length es) count c.in_ok-chains.ensures.loose_least few))
    c.tidied_chains.ensures

pub returns-clause-within : goal.returns-clause-within
returns-clause-within c =
    let es = c.in_ok-edges.edges.items in
    let chains = c.in_ok-chains.chains in
    let closed : AreOfEnds es chains.closed = rw c.as_slice.ensures.value at c.in_ok-chains.ensures.closed_of_ends in
    let loose : AreOfEnds es chains.loose = rw c.as_slice.ensures.value at c.in_ok-chains.ensures.loose_of_ends in
    IfOk-weaker c.tidied_chains.result _ _
    (λ region is box inside. subst (λ (r : List (List Pt)). RegionIn box r) (sym is) (tidied_chains-in box c.args.operation c.args.all.now es chains c.in_ok-edges.ensures closed loose inside))
    c.tidied_chains.ensures

pub returns-clause-least : goal.returns-clause-least
returns-clause-least c =
    let chains = c.in_ok-chains.chains in
    IfOk-weaker c.tidied_chains.result _ _
    (λ region is. subst (λ (r : List (List Pt)). HaveAtLeast 1 r) (sym is) (tidied_chains-some chains))
    c.tidied_chains.ensures
