use Rattle.std.proofs.Common.{◌≡◌, drop, [], map, length}
use Rattle.clip_core.specs.Bundles.{bundles_of}
use Rattle.clip_core.specs.Inner.Found.{ends_of, AreFound}
use Rattle.clip_core.proofs.bundles.bundles_of.Given as goal

abbrev pub invariant-loop-m : goal.invariant-loop-m
invariant-loop-m l = record {
  same : l.found.keys ≡ map ends_of l.bundles.items;
  so_far : bundles_of l.bundles.items (drop l.m-index l.all) ≡ bundles_of [] l.all;
  count : length l.indices.items ≡ l.m-index;
  found_all : AreFound l.all l.bundles.items l.indices.items;
}
