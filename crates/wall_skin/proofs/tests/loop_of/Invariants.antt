use Rattle.std.specs.List.{All}
use Rattle.slice_base.specs.Boxes.{IsIn, around}
use Rattle.wall_skin.proofs.tests.loop_of.Given as goal

abbrev pub invariant-loop-p : goal.invariant-loop-p
invariant-loop-p l = All (IsIn (around 100000)) l.points
