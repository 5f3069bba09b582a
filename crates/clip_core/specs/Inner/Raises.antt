-- Sums that are raised from an index on.
use Rattle.std.specs.Prelude.{ℕ, zero, suc, ◌≡◌, ◌+◌, ◌≤◌, ◌<◌, List, [], ◌∷◌, length, set, slice_index_or}
use Rattle.std.specs.List.{All}
use Rattle.edge_cut.specs.declared.passes.Marked.{Marked}
use Rattle.clip_core.specs.declared.bundles.Bundle.{Bundle}
use Rattle.clip_core.specs.declared.windings.Windings.{Windings}
use Rattle.clip_core.specs.declared.rays.Ray.{Ray}
use Rattle.clip_core.specs.Windings.{none, plus, less}
use Rattle.clip_core.specs.Inner.Small.{AreSmall}
use Rattle.clip_core.specs.Inner.Rays.{ray_with, IsSmallRay, IsFull}

-- what the raises before an index come to
abbrev pub raised : List Windings → ℕ → Windings
raised [] k = none
raised (w ∷ ws) zero = none
raised (w ∷ ws) (suc k) = plus w (raised ws k)

-- the sums from an index on greater by so much
abbrev pub raised_from : List Windings → ℕ → Windings → List Windings
raised_from ws i w = set ws i (plus (slice_index_or ws i none) w)

-- the sums from an index on less by so much
abbrev pub lowered_from : List Windings → ℕ → Windings → List Windings
lowered_from ws i w = set ws i (less (slice_index_or ws i none) w)

-- the ray with a greater sum
abbrev pub lifted : Windings → Ray → Ray
lifted w r = record r { sum = plus r.sum w }

-- the ray at k with all raises up to it
abbrev pub ray_at : List Ray → List Windings → ℕ → Ray → Ray
ray_at rays raises k d = lifted (raised raises (suc k)) (slice_index_or rays k d)

-- no number of theirs is beyond n
pub record AllSmall (n : ℕ) (rays : List Ray) (raises : List Windings) : Type 0 where
  pub rays_small : All (IsSmallRay n) rays
  pub raises_small : All (AreSmall n) raises

-- the rays from i to j have an edge more, the others are as they were
pub record Adds (f : Bundle) (share : Windings) (i j : ℕ) (rays : List Ray) (raises : List Windings) (new : List Ray)
    (new_raises : List Windings) : Type 0 where
  pub count : length new ≡ length rays
  pub raises_count : length new_raises ≡ length raises
  pub before : (k : ℕ) (d : Ray) → k < i → k < length rays → ray_at new new_raises k d ≡ ray_at rays raises k d
  pub within : (k : ℕ) (d : Ray) → i ≤ k → k < j → k < length rays
      → ray_at new new_raises k d ≡ ray_with f share (ray_at rays raises k d)
  pub behind : (k : ℕ) (d : Ray) → j ≤ k → k < length rays → ray_at new new_raises k d ≡ ray_at rays raises k d
  pub small : (n : ℕ) → AllSmall (n + i) rays raises → AllSmall (n + j) new new_raises

-- each of these rays, with an edge more
abbrev pub AreWith : Bundle → Windings → List Ray → List Windings → List Ray → List Windings → Type 0
AreWith f share rays raises new new_raises =
    (k : ℕ) (d : Ray) → k < length new → ray_at new new_raises k d ≡ ray_with f share (ray_at rays raises k d)

-- each of these rays, with all these edges
abbrev pub AreFull : List Marked → List Ray → List Ray → List Windings → Type 0
AreFull all bare full raises =
    (k : ℕ) (d : Ray) → k < length full → IsFull all (slice_index_or bare k d) (ray_at full raises k d)

-- each of these rays, raised
abbrev pub AreLifted : List Ray → List Windings → List Ray → Type 0
AreLifted rays raises new = (k : ℕ) (d : Ray) → k < length new → slice_index_or new k d ≡ ray_at rays raises k d
