use Rattle.std.proofs.Common.{◌≡◌, Ok}
use Rattle.slice_base.specs.Outcomes.{up_to}
use Rattle.area_stage.specs.Fills.{mesh_split_of}
use Rattle.area_stage.proofs.fills.layer_splits.Given as goal

abbrev pub invariant-loop-i : goal.invariant-loop-i
invariant-loop-i l = up_to (mesh_split_of l.settings l.columns l.layer) l.i ≡ Ok l.splits
