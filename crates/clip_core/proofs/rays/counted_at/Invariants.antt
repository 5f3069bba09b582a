use Rattle.std.proofs.Common.{◌≡◌, ◌≤◌, ◌<◌, ℕ, true, false, get_or}
use Rattle.clip_core.specs.declared.rays.Ray.{Ray}
use Rattle.clip_core.specs.Inner.Rays.{is_below}
use Rattle.clip_core.proofs.rays.counted_at.Given as goal

abbrev pub invariant-loop-k : goal.invariant-loop-k
invariant-loop-k l = record {
  later : l.i ≤ l.to;
  within : l.to ≤ l.k;
  below : (k : ℕ) (d : Ray) → l.i ≤ k → k < l.to → is_below l.key (get_or l.rays k d) ≡ true;
  over : (d : Ray) → l.to < l.k → is_below l.key (get_or l.rays l.to d) ≡ false;
}
