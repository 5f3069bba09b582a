use Rattle.std.proofs.Common.{◌≡◌, ℕ, ◌*◌, ◌<◌, get_or, length}
use Rattle.clip_bands.specs.declared.bands.Span.{Span}
use Rattle.clip_bands.specs.Inner.Blocks.{IsHull}
use Rattle.clip_bands.proofs.bands.blocks_of.Given as goal

abbrev pub invariant-loop-k : goal.invariant-loop-k
invariant-loop-k l = record {
  count : length l.blocks.items ≡ l.k;
  covers : (j : ℕ) (d : Span) → j < l.k → IsHull (get_or l.blocks.items j d) l.spans (16 * j);
}
