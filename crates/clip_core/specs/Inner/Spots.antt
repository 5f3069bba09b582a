-- Keys of bundles, by which rays are ordered.
use Rattle.std.specs.Prelude.{ℕ, ◌≡◌, ◌≤◌, ◌<◌, List, length, slice_index_or}
use Rattle.clip_core.specs.declared.bundles.Bundle.{Bundle}
use Rattle.clip_core.specs.declared.rays.Ray.{Ray}
use Rattle.clip_core.specs.declared.spots.Spot.{Spot}
use Rattle.clip_core.specs.Inner.Rays.{nowhere, IsKeyOf}

-- what an index past the end would read
abbrev pub no_spot : Spot
no_spot = record { key = 0; index = 0 }

-- the key is that of the bundle at the index
pub record IsSpotOf (bits : ℕ) (bundles : List Bundle) (s : Spot) : Type 0 where
  pub within : s.index < length bundles
  pub keyed : IsKeyOf bits (slice_index_or bundles s.index nowhere) s.key

-- each spot has the index of its own place
abbrev pub AreNumbered : List Spot → Type 0
AreNumbered spots = (k : ℕ) (d : Spot) → k < length spots → (slice_index_or spots k d).index ≡ k

-- the spots stand by their keys
abbrev pub AreRising : List Spot → Type 0
AreRising spots = (i j : ℕ) (d : Spot) → i ≤ j → j < length spots
    → (slice_index_or spots i d).key ≤ (slice_index_or spots j d).key

-- each bundle has a spot
abbrev pub HaveSpots : List Bundle → List Spot → Type 0
HaveSpots bundles spots =
    (k : ℕ) (d : Spot) → k < length bundles → (j : ℕ) × (j < length spots) × ((slice_index_or spots j d).index ≡ k)

-- the ray has the spot's key and index
pub record IsRayAt (s : Spot) (r : Ray) : Type 0 where
  pub key : r.key ≡ s.key
  pub index : r.index ≡ s.index

-- the rays stand as the spots do
pub record AreAt (spots : List Spot) (rays : List Ray) : Type 0 where
  pub count : length rays ≡ length spots
  pub each : (k : ℕ) (d : Ray) (e : Spot) → k < length rays
      → IsRayAt (slice_index_or spots k e) (slice_index_or rays k d)
