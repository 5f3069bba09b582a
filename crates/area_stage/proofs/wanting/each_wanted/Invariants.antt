use Rattle.std.proofs.Common.{◌≡◌, ◌++◌, drop, length, map}
use Rattle.std.specs.List.{All}
use Rattle.area_stage.specs.Extruders.{wanted_of}
use Rattle.area_stage.specs.Inner.Layers.{AreBelow}
use Rattle.area_stage.proofs.wanting.each_wanted.Given as goal

abbrev pub invariant-loop-a : goal.invariant-loop-a
invariant-loop-a l = record {
  so_far : l.all ++ map (wanted_of l.settings) (drop l.a-index l.areas) ≡ map (wanted_of l.settings) l.areas;
  known : All (AreBelow (length l.settings.extruders)) l.all;
}
