use Rattle.std.proofs.Common.{ℕ, ◌≡◌, ◌<◌, length, get_or, None}
use Rattle.stitch_core.specs.Inner.Nearest.{IsNearest}
use Rattle.stitch_core.proofs.nearest.Nearest.of.Given as goal

abbrev pub invariant-loop-from : goal.invariant-loop-from
invariant-loop-from l = record {
  same : length l.gaps.items ≡ l.from;
  each : (k : ℕ) → k < l.from → IsNearest l.slots k (get_or l.gaps.items k None);
}
