use Rattle.std.proofs.Common.{◌≡◌, ◌≤◌, ◌-◌, Ok}
use Rattle.slice_base.specs.Outcomes.{up_to}
use Rattle.area_stage.specs.Fills.{layer_splits_of}
use Rattle.area_stage.proofs.phases.job_splits_wide.Given as goal

abbrev pub invariant-runs : goal.invariant-runs
invariant-runs g l = record {
  few : l.from ≤ l.count;
  so_far : up_to (layer_splits_of l.settings l.columns) l.from ≡ Ok l.splits;
}

abbrev pub decreases-runs : goal.decreases-runs
decreases-runs g l = l.count - l.from
