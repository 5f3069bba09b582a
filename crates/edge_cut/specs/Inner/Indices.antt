-- Edges read at their indices.
use Rattle.std.specs.Prelude.{pos, false}
use Rattle.edge_cut.specs.declared.passes.Marked.{Marked}

-- what an index past the end would read
abbrev pub nothing : Marked
nothing = record {
  edge = record { from = record { x = pos 0; y = pos 0 }; to = record { x = pos 0; y = pos 0 } };
  second = false;
}
