use Rattle.std.proofs.Common.{◌≡◌, drop, length}
use Rattle.area_stage.specs.Extruders.{wanted_with, wanted_of}
use Rattle.area_stage.specs.Inner.Layers.{AreBelow}
use Rattle.area_stage.proofs.wanting.wanted.Given as goal

abbrev pub invariant-loop-i : goal.invariant-loop-i
invariant-loop-i l = record {
  so_far : wanted_with l.bits (drop l.i l.settings.meshes) (drop l.i l.areas) ≡ wanted_of l.settings l.areas;
  known : AreBelow (length l.settings.extruders) l.bits;
}
