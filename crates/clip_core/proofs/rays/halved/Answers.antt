use Rattle.std.proofs.Common.{◌≡◌, ◌+◌, ◌-◌, ◌/◌, ℕ, Bool, true, false, cond, get_or, arith, sym}
use Rattle.clip_core.specs.Inner.Rays.{is_below, no_ray}
use Rattle.clip_core.proofs.PassedBy.{below-rest}
use Rattle.clip_core.proofs.rays.halved.Goals as goal

pub returns-clause-below : goal.returns-clause-below
returns-clause-below c k d le lt = pick c.is_below.result (sym c.is_below.ensures) c.many_if-passed.ensures
  where
    half : ℕ
    half = (c.args.bounds.high - c.args.bounds.low) / 2

    pick : (t : Bool) → is_below c.args.key (get_or c.args.rays.now (c.args.bounds.low + half - 1) no_ray) ≡ t → c.many_if-passed.result ≡ cond t half 0 → is_below c.args.key (get_or c.args.rays.now k d) ≡ true
    pick true is passed =
        below-rest c.args.key c.args.rays.now k (c.args.bounds.low + half - 1) d no_ray c.requires.rising (omega (arith, lt, passed)) (omega (arith, c.requires.some, c.requires.within)) is
    pick false is passed = absurd (omega (arith, le, lt, passed))
