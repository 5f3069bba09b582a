use Rattle.std.proofs.Common.{◌≡◌, ◌≤◌, ◌<◌, ◌-◌, ℕ, true, get_or}
use Rattle.clip_core.specs.declared.rays.Ray.{Ray}
use Rattle.clip_core.specs.Inner.Rays.{is_below}
use Rattle.clip_core.proofs.rays.first_at.Given as goal

abbrev pub invariant-halves : goal.invariant-halves
invariant-halves l = record {
  later : l.i ≤ l.bounds.low;
  ordered : l.bounds.low ≤ l.bounds.high;
  within : l.bounds.high ≤ l.end;
  below : (k : ℕ) (d : Ray) → l.i ≤ k → k < l.bounds.low → is_below l.key (get_or l.rays k d) ≡ true;
}

abbrev pub decreases-halves : goal.decreases-halves
decreases-halves l = l.bounds.high - l.bounds.low
