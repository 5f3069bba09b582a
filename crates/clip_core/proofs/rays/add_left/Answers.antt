use Rattle.std.proofs.Common.{◌≡◌, ◌<◌, ◌≤◌, inl, inr, ◌⊎◌, true, ℕ, List, get_or, length, arith, sym, subst}
use Rattle.clip_core.specs.declared.rays.Member.{Member}
use Rattle.clip_core.specs.declared.rays.Ray.{Ray}
use Rattle.clip_core.specs.declared.windings.Windings.{Windings}
use Rattle.clip_core.specs.Inner.Rays.{is_below}
use Rattle.clip_core.specs.Inner.Raises.{raised_from, lowered_from, Adds}
use Rattle.clip_core.proofs.Lifts.{raised-some, raised-same}
use Rattle.clip_core.proofs.Shares.{below-or-not}
use Rattle.clip_core.proofs.Stretches.{adds-left, adds-none}
use Rattle.clip_core.proofs.rays.add_left.Goals as goal

pub returns-clause-exact : goal.returns-clause-exact
returns-clause-exact c = subst (λ (ws : List Windings). Adds m.slope.ends m.share i to rays raises rays ws) (sym c.raise.ensures) (pick (below-or-not i to))
  where
    m : Member
    m = c.args.m

    i : ℕ
    i = c.args.i

    rays : List Ray
    rays = c.args.rays.now

    raises : List Windings
    raises = c.args.raises.now.items

    to : ℕ
    to = c.first_at-to.result

    inside : to < length raises
    inside = omega (arith, c.first_at-to.ensures.within, c.requires.within, c.requires.enough)

    pick : (i < to) ⊎ (to ≤ i) → Adds m.slope.ends m.share i to rays raises rays (lowered_from (raised_from raises i m.share) to m.share)
    pick (inl some) =
        subst (λ (ws : List Windings). Adds m.slope.ends m.share i to rays raises rays ws) (sym (raised-some raises i to m.share some))
        (adds-left m c.args.strip i to rays raises c.requires.member some inside (omega (arith, c.if-strip-m.false)) (omega (arith, c.if-m-strip.false)) c.requires.keyed
        (λ k d le lt below. c.requires.in_strip k d le (omega (arith, lt, c.first_at-to.ensures.within)) below)
        (λ k d le lt. subst (λ n. is_below n (get_or rays k d) ≡ true) c.key_in.ensures (c.first_at-to.ensures.below k d le lt)))
    pick (inr over) =
        let same : i ≡ to = omega (arith, over, c.first_at-to.ensures.later) in
        subst (λ (j : ℕ). Adds m.slope.ends m.share i j rays raises rays (lowered_from (raised_from raises i m.share) j m.share)) same
        (subst (λ (ws : List Windings). Adds m.slope.ends m.share i i rays raises rays ws) (sym (raised-same raises i m.share (omega (arith, inside, same))))
        (adds-none m.slope.ends m.share i rays raises))
