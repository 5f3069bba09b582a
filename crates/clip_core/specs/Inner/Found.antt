-- Bundles looked up by their ends, and by the edges that they have.
use Rattle.std.specs.Prelude.{ℕ, ◌≡◌, ◌<◌, List, length, slice_index_or}
use Rattle.std.specs.List.{All}
use Rattle.edge_cut.specs.declared.passes.Marked.{Marked}
use Rattle.clip_core.specs.declared.bundles.Bundle.{Bundle}
use Rattle.clip_core.specs.declared.bundles.Ends.{Ends}
use Rattle.clip_core.specs.declared.windings.Windings.{Windings}
use Rattle.clip_core.specs.Bundles.{bundle_of}
use Rattle.clip_core.specs.Windings.{none, net_of}
use Rattle.clip_core.specs.Inner.Small.{AreSmall}
use Rattle.clip_core.specs.Inner.Rays.{nowhere}

-- the coordinates of the bundle's ends
abbrev pub ends_of : Bundle → Ends
ends_of b = record { low_x = b.low.x; low_y = b.low.y; high_x = b.high.x; high_y = b.high.y }

-- the bundle stands at this index
pub record IsAt (bundles : List Bundle) (index : ℕ) (b : Bundle) : Type 0 where
  pub within : index < length bundles
  pub is : slice_index_or bundles index nowhere ≡ b

-- each edge has the index of its bundle
abbrev pub AreFound : List Marked → List Bundle → List ℕ → Type 0
AreFound all bundles indices =
    (i : ℕ) (d : Marked) → i < length indices
    → IsAt bundles (slice_index_or indices i 0) (bundle_of (slice_index_or all i d).edge)

-- each bundle has its net counts
pub record HaveNets (all : List Marked) (bundles : List Bundle) (nets : List Windings) : Type 0 where
  pub count : length nets ≡ length bundles
  pub each : (k : ℕ) → k < length bundles → slice_index_or nets k none ≡ net_of all (slice_index_or bundles k nowhere)
  pub small : All (AreSmall 100000) nets
