use Rattle.area_stage.specs.Inner.Walls.{AreJobWalls}
use Rattle.area_stage.proofs.phases.job_walls.Given as goal

abbrev pub invariant-loop-k : goal.invariant-loop-k
invariant-loop-k l = AreJobWalls l.settings l.meshes l.k l.walls
