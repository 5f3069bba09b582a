-- Where strips begin in a list of rays.
use Rattle.std.specs.Prelude.{ℕ, ◌≡◌, ◌+◌, ◌≤◌, ◌<◌, true, List, length, slice_index_or}
use Rattle.clip_core.specs.declared.rays.Ray.{Ray}
use Rattle.clip_core.specs.Inner.Rays.{is_under}

-- the rays before i stand under the strip
pub record IsFirst (strip i : ℕ) (rays : List Ray) : Type 0 where
  pub within : i ≤ length rays
  pub before : (k : ℕ) (d : Ray) → k < i → is_under strip (slice_index_or rays k d) ≡ true

-- the rays before the first one at j stand under the strip base + j
pub record AreFirsts (base : ℕ) (firsts : List ℕ) (rays : List Ray) : Type 0 where
  pub some : 0 < length firsts
  pub each : (j : ℕ) → j < length firsts → IsFirst (base + j) (slice_index_or firsts j 0) rays
