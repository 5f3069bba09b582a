use Rattle.std.proofs.Common.{◌≤◌, ◌-◌}
use Rattle.area_stage.specs.Inner.Walls.{AreJobWalls}
use Rattle.area_stage.proofs.phases.job_walls_wide.Given as goal

abbrev pub invariant-runs : goal.invariant-runs
invariant-runs g l = record {
  few : l.from ≤ l.count;
  so_far : AreJobWalls l.settings l.meshes l.from l.walls;
}

abbrev pub decreases-runs : goal.decreases-runs
decreases-runs g l = l.count - l.from
