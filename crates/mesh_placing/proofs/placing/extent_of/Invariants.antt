use Rattle.std.proofs.Common.{◌≡◌, drop}
use Rattle.std.specs.List.{fold}
use Rattle.mesh_placing.specs.Extents.{corners_of, extent_of, stretched}
use Rattle.mesh_placing.proofs.placing.extent_of.Given as goal

abbrev pub invariant-loop-t : goal.invariant-loop-t
invariant-loop-t l = fold stretched l.found (corners_of (drop l.t-index l.tris)) ≡ extent_of l.tris
