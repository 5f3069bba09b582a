use Rattle.std.proofs.Common.{◌≡◌, ◌*◌, ◌<◌, ℕ, length, get_or, drop}
use Rattle.clip_core.specs.declared.rays.Ray.{Ray}
use Rattle.clip_core.specs.Inner.Raises.{ray_at, AllSmall}
use Rattle.clip_core.proofs.Shares.{IsSoFar}
use Rattle.clip_core.proofs.rays.add_edges.Given as goal

abbrev pub invariant-loop-m : goal.invariant-loop-m
invariant-loop-m l = record {
  count : length l.rays.items ≡ length l.fn.rays.items;
  raises_count : length l.raises.items ≡ length l.fn.raises.items;
  so_far : (k : ℕ) (d : Ray) → k < length l.rays.items → IsSoFar l.m-index (drop l.m-index l.all) l.all (get_or l.fn.rays.items k d) (ray_at l.rays.items l.raises.items k d);
  small : AllSmall (100000 * l.m-index) l.rays.items l.raises.items;
}
