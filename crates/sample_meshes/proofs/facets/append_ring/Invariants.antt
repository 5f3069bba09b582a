use Rattle.std.proofs.Common.{◌≡◌, ◌++◌}
use Rattle.sample_meshes.specs.Meshes.{side_text, texts}
use Rattle.sample_meshes.proofs.facets.append_ring.Given as goal

abbrev pub invariant-sides : goal.invariant-sides
invariant-sides l = l.text.items ≡ l.initial.text.items ++ texts (side_text l.outline l.k) l.j
