use Rattle.std.proofs.Common.{◌≡◌, ◌*◌, ◌^◌, ◌≤◌, take}
use Rattle.plan_types.specs.Steps.{path_counts_of}
use Rattle.preheat_core.proofs.spots.number.Given as goal

abbrev pub invariant-loop-slot : goal.invariant-loop-slot
invariant-loop-slot l = record {
  n : l.n ≡ path_counts_of (take l.slot l.window);
  small : l.n ≤ l.slot * 2 ^ 40;
}
