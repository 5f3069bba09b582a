-- Edges as they are tried against midpoints, all numbers doubled.
use Rattle.std.specs.Prelude.{◌≡◌, ◌≤◌, ◌<◌, ◌^◌, ◌+ℤ◌, ◌-ℤ◌, unsigned_abs}
use Rattle.clip_core.specs.declared.bundles.Bundle.{Bundle}
use Rattle.clip_core.specs.declared.slopes.Slope.{Slope}
use Rattle.clip_core.specs.declared.strips.Breadth.{Breadth}
use Rattle.clip_core.specs.Inner.Rays.{above_least}

-- the numbers are those of the two ends
pub record IsSlope (s : Slope) : Type 0 where
  pub low : s.low ≡ s.ends.low.y +ℤ s.ends.low.y
  pub begin : s.begin ≡ s.ends.low.x +ℤ s.ends.low.x
  pub across : s.across ≡ (s.ends.high.x +ℤ s.ends.high.x) -ℤ (s.ends.low.x +ℤ s.ends.low.x)
  pub up : s.up ≡ (s.ends.high.y +ℤ s.ends.high.y) -ℤ (s.ends.low.y +ℤ s.ends.low.y)
  pub low_small : unsigned_abs s.low ≤ 2 ^ 32
  pub begin_small : unsigned_abs s.begin ≤ 2 ^ 32
  pub across_small : unsigned_abs s.across ≤ 2 ^ 33
  pub up_small : unsigned_abs s.up ≤ 2 ^ 33

-- both ends stand between these places
pub record IsBreadth (f : Bundle) (b : Breadth) : Type 0 where
  pub left_low : b.left ≤ above_least (f.low.x +ℤ f.low.x)
  pub left_high : b.left ≤ above_least (f.high.x +ℤ f.high.x)
  pub right_low : above_least (f.low.x +ℤ f.low.x) ≤ b.right
  pub right_high : above_least (f.high.x +ℤ f.high.x) ≤ b.right
  pub left_small : b.left < 8589934592
  pub right_small : b.right < 8589934592
