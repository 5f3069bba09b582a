use Rattle.std.proofs.Common.{List, Option, sym, subst}
use Rattle.slice_base.specs.declared.points.Edge.{Edge}
use Rattle.clip_core.specs.declared.rays.Ray.{Ray}
use Rattle.clip_core.specs.Inner.Rays.{no_ray}
use Rattle.clip_core.specs.Inner.Indexed.{IsEdgeAt, AreEdgesOf}
use Rattle.clip_core.proofs.Indexed.{each-placed}
use Rattle.clip_core.proofs.keeping.kept_edges.Goals as goal

pub kept_edges_of-requires-clause-exact : goal.kept_edges_of-requires-clause-exact
kept_edges_of-requires-clause-exact c k below =
    let all = c.args.all.now in
    let bundles = c.args.bundles.now in
    let slots = c.in_ok-slots.slots.items in
    let rays = c.in_ok-rays.rays.items in
    let are : AreEdgesOf c.args.operation all bundles slots rays = subst (λ (rs : List Ray). AreEdgesOf c.args.operation all bundles slots rs) c.as_slice.ensures.value c.in_ok-slots.ensures.exact in
    subst (λ (os : List (Option Edge)). IsEdgeAt c.args.operation all bundles os k) (sym c.as_slice-3.ensures.value)
    (each-placed c.args.operation all bundles slots rays c.in_ok-rays.ensures.each are k no_ray below)
