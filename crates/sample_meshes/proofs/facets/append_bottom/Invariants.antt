use Rattle.std.proofs.Common.{◌≡◌, ◌++◌}
use Rattle.sample_meshes.specs.Meshes.{bottom_text, texts}
use Rattle.sample_meshes.proofs.facets.append_bottom.Given as goal

abbrev pub invariant-facets : goal.invariant-facets
invariant-facets l = l.text.items ≡ l.initial.text.items ++ texts (bottom_text l.outline) l.j
