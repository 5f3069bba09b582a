use Rattle.std.proofs.Common.{◌≤◌, ◌-◌, List}
use Rattle.clip_core.specs.declared.windings.Windings.{Windings}
use Rattle.clip_core.specs.Inner.Raises.{Adds}
use Rattle.clip_core.proofs.rays.add_near.Given as goal

abbrev pub invariant-near : goal.invariant-near
invariant-near l = record {
  later : l.i ≤ l.k;
  within : l.k ≤ l.end;
  adds : (raises : List Windings) → Adds l.m.slope.ends l.m.share l.i l.k l.fn.rays raises l.rays raises;
}

abbrev pub decreases-near : goal.decreases-near
decreases-near l = l.end - l.k
