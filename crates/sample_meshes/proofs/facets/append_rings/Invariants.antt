use Rattle.std.proofs.Common.{◌≡◌, ◌++◌}
use Rattle.sample_meshes.specs.Meshes.{ring_text, texts}
use Rattle.sample_meshes.proofs.facets.append_rings.Given as goal

abbrev pub invariant-rings : goal.invariant-rings
invariant-rings l = l.text.items ≡ l.initial.text.items ++ texts (ring_text l.outline) l.k
