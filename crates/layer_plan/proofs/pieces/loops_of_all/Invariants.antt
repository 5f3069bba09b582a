use Rattle.std.proofs.Common.{◌≡◌, ◌++◌, drop}
use Rattle.layer_plan.specs.Pieces.{loops_of_all}
use Rattle.layer_plan.proofs.pieces.loops_of_all.Given as goal

abbrev pub invariant-loop-region : goal.invariant-loop-region
invariant-loop-region l = l.pieces ++ loops_of_all (drop l.region-index l.regions) ≡ loops_of_all l.regions
