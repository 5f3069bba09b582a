use Rattle.std.proofs.Common.{◌≡◌, drop}
use Rattle.area_stage.specs.Extruders.{has_some_loop}
use Rattle.area_stage.proofs.wanting.has_some_loop.Given as goal

abbrev pub invariant-loop-region : goal.invariant-loop-region
invariant-loop-region l = has_some_loop (drop l.region-index l.regions) ≡ has_some_loop l.regions
