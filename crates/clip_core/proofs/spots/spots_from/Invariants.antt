use Rattle.std.proofs.Common.{◌≡◌, length}
use Rattle.std.specs.List.{All}
use Rattle.clip_core.specs.Inner.Spots.{IsSpotOf, AreNumbered}
use Rattle.clip_core.proofs.spots.spots_from.Given as goal

abbrev pub invariant-loop-index : goal.invariant-loop-index
invariant-loop-index l = record {
  count : length l.spots.items ≡ l.index;
  are : All (IsSpotOf l.bits l.bundles) l.spots.items;
  numbered : AreNumbered l.spots.items;
}
