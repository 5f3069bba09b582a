use Rattle.std.proofs.Common.{◌≤◌, ◌-◌, length}
use Rattle.clip_core.specs.Inner.Raises.{Adds}
use Rattle.clip_core.proofs.rays.add_edge.Given as goal

abbrev pub invariant-walk : goal.invariant-walk
invariant-walk l = record {
  within : l.i ≤ length l.rays.items;
  adds : Adds l.member.slope.ends l.member.share 0 l.i l.fn.rays.items l.fn.raises.items l.rays.items l.raises.items;
}

abbrev pub decreases-walk : goal.decreases-walk
decreases-walk l = length l.rays.items - l.i
