use Rattle.std.proofs.Common.{◌-◌, length}
use Rattle.clip_core.specs.Inner.Starts.{IsFirst}
use Rattle.clip_core.proofs.starts.first_from.Given as goal

abbrev pub invariant-rest : goal.invariant-rest
invariant-rest l = IsFirst l.strip l.k l.rays

abbrev pub decreases-rest : goal.decreases-rest
decreases-rest l = length l.rays - l.k
