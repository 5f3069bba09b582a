use Rattle.std.proofs.Common.{◌≡◌, ◌+◌, take}
use Rattle.plan_types.specs.Steps.{path_counts_of}
use Rattle.preheat_core.proofs.spots.spot_at.Given as goal

abbrev pub invariant-loop-l : goal.invariant-loop-l
invariant-loop-l l = record {
  slot : l.slot ≡ l.l-index;
  rest : path_counts_of (take l.l-index l.window) + l.rest ≡ l.number;
}
