use Rattle.std.proofs.Common.{◌≡◌, ◌++◌}
use Rattle.sample_meshes.specs.Meshes.{top_text, texts}
use Rattle.sample_meshes.proofs.facets.append_top.Given as goal

abbrev pub invariant-facets : goal.invariant-facets
invariant-facets l = l.text.items ≡ l.initial.text.items ++ texts (top_text l.outline) l.j
