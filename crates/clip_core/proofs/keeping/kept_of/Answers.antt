use Rattle.std.proofs.Common.{◌∙◌, ℕ, List, length, arith, ap, sym, subst, []}
use Rattle.clip_core.specs.declared.bundles.Bundle.{Bundle}
use Rattle.clip_core.specs.Bundled.{AreDistinct}
use Rattle.clip_core.specs.Inner.Found.{AreFound}
use Rattle.clip_core.proofs.Sizes.{bundles_of-le}
use Rattle.clip_core.proofs.Found.{bundles_of-distinct}
use Rattle.clip_core.proofs.keeping.kept_of.Goals as goal

pub returns-then-keeps_none : goal.returns-then-keeps_none
returns-then-keeps_none c = c.new.ensures.items ∙ sym (c.keeps_none.ensures c.if-keeps_none.true)

pub kept_edges-requires-clause-bundles_few : goal.kept_edges-requires-clause-bundles_few
kept_edges-requires-clause-bundles_few c =
    let few = bundles_of-le [] c.args.all.now in
    let same = ap length c.in_ok-bundled.ensures.bundles in
    let whole = ap length c.as_slice.ensures.value in
    omega (arith, few, same, whole, c.requires)

pub kept_edges-requires-clause-found : goal.kept_edges-requires-clause-found
kept_edges-requires-clause-found c =
    let all = c.args.all.now in
    subst (λ (ks : List ℕ). AreFound all c.as_slice.result.now ks) (sym c.as_slice-2.ensures.value)
    (subst (λ (bs : List Bundle). AreFound all bs c.in_ok-bundled.bundled.indices.items) (sym c.as_slice.ensures.value) c.in_ok-bundled.ensures.found)

pub kept_edges-requires-clause-distinct : goal.kept_edges-requires-clause-distinct
kept_edges-requires-clause-distinct c = subst (λ (bs : List Bundle). AreDistinct bs) (sym (c.as_slice.ensures.value ∙ c.in_ok-bundled.ensures.bundles)) (bundles_of-distinct c.args.all.now)
