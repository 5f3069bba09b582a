-- Bundles with their winding sums, as far as edges were added to them.
use Rattle.std.specs.Prelude.{ℕ, ℤ, pos, ◌≡◌, ◌+◌, ◌*◌, ◌/◌, ◌^◌, ◌+ℤ◌, ◌≤◌, ◌<◌, Bool, cond, ◌&&◌, int_le, nat_lt, nat_le, List, length, slice_index_or, unsigned_abs}
use Rattle.slice_base.specs.Plane.{cross_of}
use Rattle.edge_cut.specs.declared.passes.Marked.{Marked}
use Rattle.clip_core.specs.declared.bundles.Bundle.{Bundle}
use Rattle.clip_core.specs.declared.windings.Windings.{Windings}
use Rattle.clip_core.specs.declared.rays.Ray.{Ray}
use Rattle.clip_core.specs.Windings.{none, plus, sum_of, reaches, stands_right}
use Rattle.clip_core.specs.Inner.Small.{AreSmall}

-- what an index past the end would read
abbrev pub nowhere : Bundle
nowhere = record { low = record { x = pos 0; y = pos 0 }; high = record { x = pos 0; y = pos 0 } }

-- what an index past the end would read
abbrev pub no_ray : Ray
no_ray = record { key = 0; bundle = nowhere; index = 0; sum = none }

-- twice the height of the bundle's midpoint
abbrev pub twice_middle : Bundle → ℤ
twice_middle b = b.low.y +ℤ b.high.y

-- twice how far across lies the bundle's midpoint
abbrev pub twice_across : Bundle → ℤ
twice_across b = b.low.x +ℤ b.high.x

-- how far the double of a coordinate stands above the least one
abbrev pub above_least : ℤ → ℕ
above_least z = cond (int_le (pos 0) (z +ℤ pos 4294967296)) (unsigned_abs (z +ℤ pos 4294967296)) 0

-- the strip that holds a doubled height, where strips are two to this power high, also doubled
abbrev pub strip_of : ℕ → ℤ → ℕ
strip_of bits z = above_least z / 2 ^ bits

-- the strip that a ray's key begins with: what is left of the key orders by how far across
abbrev pub strip_at : Ray → ℕ
strip_at r = r.key / 8589934592

-- the ray stands in a strip below
abbrev pub is_under : ℕ → Ray → Bool
is_under strip r = nat_lt (strip_at r) strip

-- the ray stands in no strip above
abbrev pub is_up_to : ℕ → Ray → Bool
is_up_to strip r = nat_le (strip_at r) strip

-- the ray's key is below this one
abbrev pub is_below : ℕ → Ray → Bool
is_below key r = nat_lt r.key key

-- the ray's key isn't above this one
abbrev pub is_up_to_key : ℕ → Ray → Bool
is_up_to_key key r = nat_le r.key key

-- twice the cross product of an edge with these ends and the way from its low end to the bundle's midpoint
abbrev pub twice_turn : Bundle → Bundle → ℤ
twice_turn f b = cross_of f.low f.high f.low b.low +ℤ cross_of f.low f.high f.low b.high

-- an edge with these ends meets the ray that goes from the bundle's midpoint to the right
abbrev pub meets_ray : Bundle → Bundle → Bool
meets_ray f b = reaches f b && stands_right f b

-- the ray with an edge more, of these ends and this share
abbrev pub ray_with : Bundle → Windings → Ray → Ray
ray_with f share r = record r { sum = plus r.sum (cond (meets_ray f r.bundle) share none) }

-- the rays stand by their keys
abbrev pub AreRising : List Ray → Type 0
AreRising rays = (i j : ℕ) (d : Ray) → i ≤ j → j < length rays
    → (slice_index_or rays i d).key ≤ (slice_index_or rays j d).key

-- the rays from i up to j stand in this strip
abbrev pub AreInStrip : ℕ → ℕ → ℕ → List Ray → Type 0
AreInStrip strip i j rays =
    (k : ℕ) (d : Ray) → i ≤ k → k < j → k < length rays → strip_at (slice_index_or rays k d) ≡ strip

-- the key is the strip of the bundle's midpoint, and then how far across it stands
pub record IsKeyOf (bits : ℕ) (b : Bundle) (key : ℕ) : Type 0 where
  pub strip : key / 8589934592 ≡ strip_of bits (twice_middle b)
  pub across : key ≡ key / 8589934592 * 8589934592 + above_least (twice_across b)

-- the key is that of the ray's bundle
abbrev pub IsKeyed : ℕ → Ray → Type 0
IsKeyed bits r = IsKeyOf bits r.bundle r.key

-- no number of the sum is beyond n
abbrev pub IsSmallRay : ℕ → Ray → Type 0
IsSmallRay n r = AreSmall n r.sum

-- nothing was added yet
abbrev pub IsBare : Ray → Type 0
IsBare r = r.sum ≡ none

-- the same ray, with all these edges
pub record IsFull (all : List Marked) (bare full : Ray) : Type 0 where
  pub bundle : full.bundle ≡ bare.bundle
  pub index : full.index ≡ bare.index
  pub sum : full.sum ≡ sum_of all bare.bundle
  pub small : IsSmallRay 100000 full

-- the ray is that of the bundle at its index
pub record IsRayOf (bundles : List Bundle) (r : Ray) : Type 0 where
  pub within : r.index < length bundles
  pub is : r.bundle ≡ slice_index_or bundles r.index nowhere

-- the same before any edge was added, with its key
pub record IsBareOf (bits : ℕ) (bundles : List Bundle) (r : Ray) : Type 0 where
  pub of_bundle : IsRayOf bundles r
  pub keyed : IsKeyed bits r
  pub bare : IsBare r

-- the ray is that of the bundle at its index, with all these edges
pub record IsTold (all : List Marked) (bundles : List Bundle) (r : Ray) : Type 0 where
  pub of_bundle : IsRayOf bundles r
  pub sum : r.sum ≡ sum_of all r.bundle
  pub small : IsSmallRay 100000 r

-- each bundle has a ray
abbrev pub HaveRays : List Bundle → List Ray → Type 0
HaveRays bundles rays =
    (k : ℕ) (d : Ray) → k < length bundles → (j : ℕ) × (j < length rays) × ((slice_index_or rays j d).index ≡ k)
