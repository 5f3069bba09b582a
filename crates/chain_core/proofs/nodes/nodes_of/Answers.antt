use Rattle.std.proofs.Common.{ℕ, ◌≡◌, ◌+◌, ◌<◌, ◌≤◌, List, length, set, arith, sym, ap, subst, ◌∙◌}
use Rattle.std.proofs.lemmas.List.{length-set, get_or_default}
use Rattle.chain_core.specs.declared.nodes.Keyed.{Keyed}
use Rattle.chain_core.specs.Inner.Nodes.{key_at, IsHead}
use Rattle.chain_core.proofs.Ranks.{none, index_at, AreTold, index-within, told-more, are-nodes}
use Rattle.chain_core.proofs.nodes.nodes_of.Goals as goal

pub index_mut-requires : goal.index_mut-requires
index_mut-requires c =
    let all = c.in_ok-all.all.items in
    let rank = c.loop-rank.rank in
    let within : rank < length all = omega arith in
    let inside = index-within c.args.points.now all rank c.in_ok-all.ensures.moved within in
    let same : c.index.result.now.index ≡ index_at all rank = ap (λ (e : Keyed). e.index) (c.index.ensures ∙ get_or_default all rank c.index.result.now none within) in
    omega arith

pub loop-rank-preserved : goal.loop-rank-preserved
loop-rank-preserved c =
    let ps = c.args.points.now in
    let all = c.in_ok-all.all.items in
    let rank = c.loop-rank.rank in
    let within : rank < length all = omega arith in
    let head = c.next_head-head.result in
    let nodes = c.loop-rank.nodes.items in
    let same : c.index.result.now.index ≡ index_at all rank = ap (λ (e : Keyed). e.index) (c.index.ensures ∙ get_or_default all rank c.index.result.now none within) in
    let alike = subst (λ (xs : List Keyed). key_at xs head ≡ key_at xs rank) c.as_slice.ensures.value c.next_head-head.ensures.alike in
    let first = subst (λ (xs : List Keyed). IsHead xs head (rank + 1)) c.as_slice.ensures.value c.next_head-head.ensures.head in
    record {
      count = rw length-set c.loop-rank.invariant.count;
      head = first;
      told = subst (λ (k : ℕ). AreTold ps all (set nodes k head) (rank + 1)) (sym same) (told-more ps all nodes head rank c.in_ok-all.ensures.moved c.loop-rank.invariant.count within c.next_head-head.ensures.within alike first c.loop-rank.invariant.told);
    }

pub returns : goal.returns
returns c =
    let all = c.in_ok-all.all.items in
    let over : length all ≤ c.loop-rank.rank = omega arith in
    are-nodes c.args.points.now all c.loop-rank.nodes.items c.loop-rank.rank c.in_ok-all.ensures.moved c.in_ok-all.ensures.keyable c.loop-rank.invariant.count over c.loop-rank.invariant.told
