use Rattle.std.proofs.Common.{◌≡◌, ◌<◌, ℕ, length, get_or}
use Rattle.std.specs.List.{All}
use Rattle.clip_core.specs.declared.rays.Ray.{Ray}
use Rattle.clip_core.specs.declared.spots.Spot.{Spot}
use Rattle.clip_core.specs.Inner.Rays.{IsBareOf}
use Rattle.clip_core.specs.Inner.Spots.{IsRayAt}
use Rattle.clip_core.proofs.rays.rays_from.Given as goal

abbrev pub invariant-loop-k : goal.invariant-loop-k
invariant-loop-k l = record {
  count : length l.rays.items ≡ l.k;
  are : All (IsBareOf l.bits l.bundles) l.rays.items;
  each : (k : ℕ) (d : Ray) (e : Spot) → k < length l.rays.items → IsRayAt (get_or l.spots k e) (get_or l.rays.items k d);
}
