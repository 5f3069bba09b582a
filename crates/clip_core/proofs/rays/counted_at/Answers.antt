use Rattle.std.proofs.Common.{◌≡◌, ◌≤◌, ◌<◌, ◌+◌, ℕ, Bool, true, false, cond, length, get_or, inl, inr, ◌⊎◌, arith, sym, subst}
use Rattle.clip_core.specs.declared.rays.Ray.{Ray}
use Rattle.clip_core.specs.Inner.Rays.{is_below, no_ray}
use Rattle.clip_core.proofs.PassedBy.{below-rest}
use Rattle.clip_core.proofs.Shares.{below-or-not, any-default}
use Rattle.clip_core.proofs.rays.counted_at.Goals as goal

clash : (b : Bool) → b ≡ false → b ≡ true → ⊥
clash true e f = absurd (cc)
clash false e f = absurd (cc)

pub loop-k-preserved : goal.loop-k-preserved
loop-k-preserved c = pick c.is_below.result (sym c.is_below.ensures) c.more_if-to.ensures
  where
    inside : c.loop-k.k < length c.args.rays.now
    inside = omega (arith, c.loop-k-test.true, c.requires.within)

    -- where this one is below, all were
    all-below : (c.loop-k.to < c.loop-k.k) ⊎ (c.loop-k.k ≤ c.loop-k.to) → is_below c.args.key (get_or c.args.rays.now c.loop-k.k no_ray) ≡ true → c.loop-k.k ≤ c.loop-k.to
    all-below (inl lt) is = absurd (clash (is_below c.args.key (get_or c.args.rays.now c.loop-k.to no_ray)) (c.loop-k.invariant.over no_ray lt) (below-rest c.args.key c.args.rays.now c.loop-k.to c.loop-k.k no_ray no_ray c.requires.rising (omega (arith, lt)) inside is))
    all-below (inr le) is = le

    first-over : (c.loop-k.to < c.loop-k.k) ⊎ (c.loop-k.k ≤ c.loop-k.to) → is_below c.args.key (get_or c.args.rays.now c.loop-k.k no_ray) ≡ false → (d : Ray) → is_below c.args.key (get_or c.args.rays.now c.loop-k.to d) ≡ false
    first-over (inl lt) is d = c.loop-k.invariant.over d lt
    first-over (inr le) is d =
        let same : c.loop-k.k ≡ c.loop-k.to = omega (arith, le, c.loop-k.invariant.within) in
        subst (λ n. is_below c.args.key (get_or c.args.rays.now n d) ≡ false) same
        (subst (λ (r : Ray). is_below c.args.key r ≡ false) (any-default c.args.rays.now c.loop-k.k no_ray d inside) is)

    pick : (t : Bool) → is_below c.args.key (get_or c.args.rays.now c.loop-k.k no_ray) ≡ t → c.more_if-to.result ≡ cond t (c.loop-k.to + 1) c.loop-k.to → record {
      later : c.args.i ≤ c.more_if-to.result;
      within : c.more_if-to.result ≤ c.loop-k.k + 1;
      below : (k : ℕ) (d : Ray) → c.args.i ≤ k → k < c.more_if-to.result → is_below c.args.key (get_or c.args.rays.now k d) ≡ true;
      over : (d : Ray) → c.more_if-to.result < c.loop-k.k + 1 → is_below c.args.key (get_or c.args.rays.now c.more_if-to.result d) ≡ false;
    }
    pick true is more =
        let h = c.loop-k.invariant in
        let all = all-below (below-or-not c.loop-k.to c.loop-k.k) is in
        record {
          later = omega (arith, h.later, more);
          within = omega (arith, h.within, more);
          below = λ k d le lt. below-rest c.args.key c.args.rays.now k c.loop-k.k d no_ray c.requires.rising (omega (arith, lt, more, h.within)) inside is;
          over = λ d lt. absurd (omega (arith, lt, more, all));
        }
    pick false is more =
        let h = c.loop-k.invariant in
        record {
          later = omega (arith, h.later, more);
          within = omega (arith, h.within, more);
          below = λ k d le lt. h.below k d le (omega (arith, lt, more));
          over = λ d lt. subst (λ n. is_below c.args.key (get_or c.args.rays.now n d) ≡ false) (sym more) (first-over (below-or-not c.loop-k.to c.loop-k.k) is d);
        }
