use Rattle.std.proofs.Common.{◌∙◌, List, length, arith, sym, ap, subst}
use Rattle.clip_core.specs.declared.windings.Windings.{Windings}
use Rattle.clip_core.specs.Inner.Raises.{AreFull}
use Rattle.clip_core.proofs.Shares.{all-bare, all-keyed, all-told, full-has}
use Rattle.clip_core.proofs.Stretches.{all-full}
use Rattle.clip_core.proofs.rays.rays_of.Goals as goal

pub starts_of-requires : goal.starts_of-requires
starts_of-requires c = let same = ap length c.as_slice.ensures.value in omega (arith, same, c.in_ok-rays.ensures.count, c.requires.bundles_few)

pub add_edges-requires-clause-bare : goal.add_edges-requires-clause-bare
add_edges-requires-clause-bare c = all-bare c.strip_bits-bits.result c.args.bundles.now c.in_ok-rays.rays.items c.in_ok-rays.ensures.are

pub add_edges-requires-clause-keyed : goal.add_edges-requires-clause-keyed
add_edges-requires-clause-keyed c = all-keyed c.strip_bits-bits.result c.args.bundles.now c.in_ok-rays.rays.items c.in_ok-rays.ensures.are

pub lift-requires-clause-few : goal.lift-requires-clause-few
lift-requires-clause-few c = omega (arith, c.add_edges.ensures.count, c.in_ok-rays.ensures.count, c.requires.bundles_few)

pub returns-clause-told : goal.returns-clause-told
returns-clause-told c =
    let all = c.args.all.now in
    let bundles = c.args.bundles.now in
    let sorted = c.in_ok-rays.rays.items in
    let rays = c.add_edges.new.rays.items in
    let new = c.lift.new.rays.items in
    let raises = c.as_slice-2.result.now in
    let full = subst (λ (ws : List Windings). AreFull all sorted rays ws) (sym c.as_slice-2.ensures.value) c.add_edges.ensures.exact in
    all-told c.strip_bits-bits.result all bundles sorted new (c.lift.ensures.count ∙ c.add_edges.ensures.count) c.in_ok-rays.ensures.are (all-full all sorted rays new raises c.lift.ensures.count full c.lift.ensures.exact)

pub returns-clause-each : goal.returns-clause-each
returns-clause-each c =
    let all = c.args.all.now in
    let bundles = c.args.bundles.now in
    let sorted = c.in_ok-rays.rays.items in
    let rays = c.add_edges.new.rays.items in
    let new = c.lift.new.rays.items in
    let raises = c.as_slice-2.result.now in
    let full = subst (λ (ws : List Windings). AreFull all sorted rays ws) (sym c.as_slice-2.ensures.value) c.add_edges.ensures.exact in
    full-has all bundles sorted new (c.lift.ensures.count ∙ c.add_edges.ensures.count) c.in_ok-rays.ensures.each (all-full all sorted rays new raises c.lift.ensures.count full c.lift.ensures.exact)
