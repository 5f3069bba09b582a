use Rattle.std.proofs.Common.{◌≡◌, length}
use Rattle.clip_core.proofs.keeping.nones.Given as goal

abbrev pub invariant-loop-index : goal.invariant-loop-index
invariant-loop-index l = length l.none.items ≡ l.index
