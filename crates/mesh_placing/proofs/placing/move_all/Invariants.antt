use Rattle.std.proofs.Common.{◌≡◌, ◌++◌, drop, map, take}
use Rattle.mesh_placing.specs.Places.{moved}
use Rattle.mesh_placing.proofs.placing.move_all.Given as goal

abbrev pub invariant-loop-t : goal.invariant-loop-t
invariant-loop-t l = l.tris ≡ map (moved l.by) (take l.t-index l.initial.tris) ++ drop l.t-index l.initial.tris
