use Rattle.std.proofs.Common.{ℕ, ◌≤◌, ◌<◌, get_or}
use Rattle.clip_bands.specs.declared.bands.Span.{Span}
use Rattle.clip_bands.specs.Inner.Blocks.{Covers}
use Rattle.clip_bands.proofs.bands.block_from.Given as goal

abbrev pub invariant-loop-i : goal.invariant-loop-i
invariant-loop-i l = (j : ℕ) (d : Span) → l.from ≤ j → j < l.i → Covers l.hull (get_or l.spans j d)
