use Rattle.std.proofs.Common.{◌≡◌, drop}
use Rattle.layer_plan.specs.Groups.{groups_of_meshes}
use Rattle.layer_plan.specs.Drawing.{with_groups}
use Rattle.layer_plan.specs.Inner.Sound.{IsDrawing}
use Rattle.layer_plan.proofs.planning.draw_meshes.Given as goal

abbrev pub invariant-loop-i : goal.invariant-loop-i
invariant-loop-i l = record {
  drawing : IsDrawing l.drawing;
  so_far : with_groups l.e l.drawing (groups_of_meshes l.sheet l.number (drop l.i l.meshes) (drop l.i l.areas)) ≡ with_groups l.e l.fn.drawing (groups_of_meshes l.sheet l.number l.meshes l.areas);
}
