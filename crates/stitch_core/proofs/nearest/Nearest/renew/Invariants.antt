use Rattle.std.proofs.Common.{ℕ, ◌≡◌, ◌<◌, ◌≤◌, length, get_or, None}
use Rattle.stitch_core.specs.Inner.Nearest.{IsRenewed}
use Rattle.stitch_core.proofs.nearest.Nearest.renew.Given as goal

abbrev pub invariant-loop-from : goal.invariant-loop-from
invariant-loop-from l = record {
  same : length l.self.gaps.items ≡ length l.initial.self.gaps.items;
  done : (k : ℕ) → k < l.from → IsRenewed l.slots l.closing k (get_or l.initial.self.gaps.items k None) (get_or l.self.gaps.items k None);
  rest : (k : ℕ) → l.from ≤ k → get_or l.self.gaps.items k None ≡ get_or l.initial.self.gaps.items k None;
}
