use Rattle.std.proofs.Common.{◌≡◌, length}
use Rattle.sample_meshes.specs.Columns.{outline_of}
use Rattle.sample_meshes.proofs.columns.outline.Given as goal

abbrev pub invariant-points : goal.invariant-points
invariant-points l = record {
  value : l.points.items ≡ outline_of l.number l.mesh l.j;
  len : length l.points.items ≡ l.j;
}
