-- Edges as they are added to rays.
use Rattle.std.specs.Prelude.{◌≡◌, ◌+ℤ◌}
use Rattle.clip_core.specs.declared.rays.Member.{Member}
use Rattle.clip_core.specs.Inner.Small.{AreSmall}
use Rattle.clip_core.specs.Inner.Slopes.{IsSlope, IsBreadth}
use Rattle.clip_core.specs.Inner.Rays.{strip_of}

-- the numbers are those of the edge
pub record IsMember (m : Member) : Type 0 where
  pub slope : IsSlope m.slope
  pub share_small : AreSmall 1 m.share
  pub first : m.first ≡ strip_of m.bits (m.slope.ends.low.y +ℤ m.slope.ends.low.y)
  pub last : m.last ≡ strip_of m.bits (m.slope.ends.high.y +ℤ m.slope.ends.high.y)
  pub breadth : IsBreadth m.slope.ends m.breadth
