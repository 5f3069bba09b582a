use Rattle.std.proofs.Common.{◌≡◌, Ok}
use Rattle.slice_base.specs.Outcomes.{up_to}
use Rattle.area_stage.specs.Fills.{layer_splits_of}
use Rattle.area_stage.proofs.phases.job_splits.Given as goal

abbrev pub invariant-loop-k : goal.invariant-loop-k
invariant-loop-k l = up_to (layer_splits_of l.settings l.columns) l.k ≡ Ok l.splits
