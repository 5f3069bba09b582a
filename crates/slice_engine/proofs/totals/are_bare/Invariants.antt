use Rattle.std.proofs.Common.{◌≡◌, drop}
use Rattle.slice_engine.specs.Totals.{are_bare}
use Rattle.slice_engine.proofs.totals.are_bare.Given as goal

abbrev pub invariant-loop-mesh : goal.invariant-loop-mesh
invariant-loop-mesh l = are_bare (drop l.mesh-index l.meshes) ≡ are_bare l.meshes
