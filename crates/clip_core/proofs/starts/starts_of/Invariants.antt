use Rattle.std.proofs.Common.{◌≡◌, ◌<◌, ◌+◌, ℕ, get_or, length}
use Rattle.clip_core.specs.Inner.Starts.{IsFirst}
use Rattle.clip_core.proofs.starts.starts_of.Given as goal

abbrev pub invariant-loop-j : goal.invariant-loop-j
invariant-loop-j l = record {
  count : length l.firsts.items ≡ l.j;
  at : IsFirst (l.base + l.j) l.i l.rays;
  each : (j : ℕ) → j < length l.firsts.items → IsFirst (l.base + j) (get_or l.firsts.items j 0) l.rays;
}
