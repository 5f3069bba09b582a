use Rattle.std.proofs.Common.{◌≡◌, ◌≤◌, ◌*◌, take, length}
use Rattle.std.specs.List.{sum_by}
use Rattle.slice_engine.proofs.planning.triangles_in.Given as goal

abbrev pub invariant-loop-mesh : goal.invariant-loop-mesh
invariant-loop-mesh l = record {
  sum : l.triangles ≡ sum_by length (take l.mesh-index l.meshes);
  small : l.triangles ≤ 4294967296 * l.mesh-index;
}
