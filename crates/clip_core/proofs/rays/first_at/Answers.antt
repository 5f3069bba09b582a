use Rattle.std.proofs.Common.{◌≡◌, ◌≤◌, ◌<◌, ℕ, true, get_or, inl, inr, ◌⊎◌, arith}
use Rattle.clip_core.specs.declared.rays.Ray.{Ray}
use Rattle.clip_core.specs.Inner.Rays.{is_below}
use Rattle.clip_core.proofs.Shares.{below-or-not}
use Rattle.clip_core.proofs.rays.first_at.Goals as goal

pub halves-init : goal.halves-init
halves-init c =
    record {
      later = omega arith;
      ordered = c.requires.some;
      within = omega arith;
      below = λ k d le lt. absurd (omega (arith, le, lt));
    }

pub halves-preserved : goal.halves-preserved
halves-preserved c =
    let h = c.halves.invariant in
    let e = c.halved-bounds.ensures in
    record {
      later = omega (arith, h.later, e.later);
      ordered = e.ordered;
      within = omega (arith, h.within, e.within);
      below = λ k d le lt. pick k d le lt (below-or-not k c.halves.bounds.low);
    }
  where
    pick : (k : ℕ) (d : Ray) → c.args.i ≤ k → k < c.halved-bounds.result.low → (k < c.halves.bounds.low) ⊎ (c.halves.bounds.low ≤ k) → is_below c.args.key (get_or c.args.rays.now k d) ≡ true
    pick k d le lt (inl g) = c.halves.invariant.below k d le g
    pick k d le lt (inr g) = c.halved-bounds.ensures.below k d g lt
