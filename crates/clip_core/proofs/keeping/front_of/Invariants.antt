use Rattle.std.proofs.Common.{◌≡◌, ◌<◌, ◌-◌, ℕ, get_or, length}
use Rattle.edge_cut.specs.declared.passes.Marked.{Marked}
use Rattle.clip_core.proofs.keeping.front_of.Given as goal

abbrev pub invariant-rest : goal.invariant-rest
invariant-rest l = (k : ℕ) (d : Marked) → k < l.i → (get_or l.all k d).second ≡ l.second

abbrev pub decreases-rest : goal.decreases-rest
decreases-rest l = length l.all - l.i
