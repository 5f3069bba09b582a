-- Kept edges in the slots of their bundles.
use Rattle.std.specs.Prelude.{ℕ, ◌≡◌, ◌<◌, List, Option, None, length, slice_index_or, option_to_list}
use Rattle.slice_base.specs.declared.points.Edge.{Edge}
use Rattle.edge_cut.specs.declared.passes.Marked.{Marked}
use Rattle.clip_core.specs.declared.bundles.Bundle.{Bundle}
use Rattle.clip_core.specs.declared.keeping.Operation.{Operation}
use Rattle.clip_core.specs.declared.rays.Ray.{Ray}
use Rattle.clip_core.specs.Keeping.{kept_edge_of}
use Rattle.clip_core.specs.Inner.Rays.{nowhere}

-- at k stands the edge of the bundle at k, if it is kept
abbrev pub IsEdgeAt : Operation → List Marked → List Bundle → List (Option Edge) → ℕ → Type 0
IsEdgeAt operation all bundles slots k =
    option_to_list (slice_index_or slots k None) ≡ kept_edge_of operation all (slice_index_or bundles k nowhere)

-- at the index of each of these rays stands its bundle's edge, if it is kept
abbrev pub AreEdgesOf : Operation → List Marked → List Bundle → List (Option Edge) → List Ray → Type 0
AreEdgesOf operation all bundles slots rays =
    (j : ℕ) (d : Ray) → j < length rays → IsEdgeAt operation all bundles slots (slice_index_or rays j d).index
