use Rattle.std.proofs.Common.{◌≡◌, drop}
use Rattle.settings_core.specs.Resolve.{first_unknown, extruder_count_of}
use Rattle.settings_core.proofs.resolving.first_unknown.Given as goal

abbrev pub invariant-loop-number : goal.invariant-loop-number
invariant-loop-number l = record {
  mesh : l.mesh ≡ l.number-index;
  count : l.count ≡ extruder_count_of l.pairs;
  rest : first_unknown l.pairs l.number-index (drop l.number-index l.given) ≡ first_unknown l.pairs 0 l.given;
}
