use Rattle.std.proofs.Common.{◌≡◌, length, arith, refl, rules, subst}
use Rattle.layer_ring.specs.Inner.Seats.{Gathered}
use Rattle.layer_ring.proofs.Seating.{gathered_start}
use Rattle.layer_ring.proofs.run.gather.Goals as goal

pub together-init : goal.together-init
together-init g c =
    let e : c.len-count.result ≡ length c.args.others.items = search rules in
    (refl, omega (arith, e), c.requires.others, gathered_start c.args.lock.now c.args.layers (length c.args.others.items) c.len-count.result c.args.root c.requires.ended e)

pub returns-clause-gathered : goal.returns-clause-gathered
returns-clause-gathered g c =
    let i = c.together.invariant in
    let e : c.len-count.result ≡ length c.args.others.items = search rules in
    let z : length c.together.others.items ≡ 0 = omega (arith, i.1) in
    subst (λ m. Gathered c.args.layers 0 m c.together.root.covers c.together.root.seen) e (subst (λ k. Gathered c.args.layers k c.len-count.result c.together.root.covers c.together.root.seen) z i.3)
