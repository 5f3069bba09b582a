use Rattle.std.proofs.Common.{◌≡◌, drop}
use Rattle.area_stage.specs.Extruders.{first_of}
use Rattle.area_stage.proofs.wanting.first.Given as goal

abbrev pub invariant-loop-w : goal.invariant-loop-w
invariant-loop-w l = first_of (drop l.w-index l.wanted) ≡ first_of l.wanted
