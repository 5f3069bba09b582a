use Rattle.std.proofs.Common.{◌≡◌, ◌<◌, ℕ, length, get_or}
use Rattle.clip_core.specs.declared.rays.Ray.{Ray}
use Rattle.clip_core.specs.Inner.Indexed.{IsEdgeAt}
use Rattle.clip_core.proofs.keeping.edges_by_index.Given as goal

abbrev pub invariant-loop-ray : goal.invariant-loop-ray
invariant-loop-ray l = record {
  count : length l.slots.items ≡ length l.bundles;
  so_far : (j : ℕ) (d : Ray) → j < l.ray-index → IsEdgeAt l.operation l.all l.bundles l.slots.items (get_or l.rays j d).index;
}
