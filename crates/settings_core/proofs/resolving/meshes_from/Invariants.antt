use Rattle.std.proofs.Common.{◌≡◌, ◌++◌, drop}
use Rattle.settings_core.specs.Resolve.{meshes_from}
use Rattle.settings_core.proofs.resolving.meshes_from.Given as goal

abbrev pub invariant-loop-number : goal.invariant-loop-number
invariant-loop-number l = record {
  mesh : l.mesh ≡ l.number-index;
  meshes : l.meshes ++ meshes_from l.pairs l.number-index (drop l.number-index l.given) ≡ meshes_from l.pairs 0 l.given;
}
