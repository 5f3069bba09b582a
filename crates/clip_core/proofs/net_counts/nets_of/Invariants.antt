use Rattle.clip_core.proofs.Finding.{IsNetSoFar}
use Rattle.clip_core.proofs.net_counts.nets_of.Given as goal

abbrev pub invariant-loop-i : goal.invariant-loop-i
invariant-loop-i l = IsNetSoFar l.all l.bundles l.i l.nets.items
