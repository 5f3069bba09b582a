use Rattle.std.proofs.Common.{◌≡◌, length}
use Rattle.std.specs.List.{All}
use Rattle.clip_core.specs.Windings.{none}
use Rattle.clip_core.proofs.windings.nones.Given as goal

abbrev pub invariant-loop-index : goal.invariant-loop-index
invariant-loop-index l = record {
  count : length l.nones.items ≡ l.index;
  none_all : All (λ w. w ≡ none) l.nones.items;
}
