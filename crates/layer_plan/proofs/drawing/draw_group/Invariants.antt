use Rattle.std.proofs.Common.{◌≡◌, drop}
use Rattle.layer_plan.specs.Pieces.{ways_of}
use Rattle.layer_plan.specs.Drawing.{with_ways, with_group}
use Rattle.layer_plan.specs.Inner.Sound.{IsDrawing}
use Rattle.layer_plan.proofs.drawing.draw_group.Given as goal

abbrev pub invariant-loop-v : goal.invariant-loop-v
invariant-loop-v l = record {
  drawing : IsDrawing l.drawing;
  so_far : with_ways l.e l.group.pen l.drawing (ways_of l.group.pieces (drop l.v-index l.v-items)) ≡ with_group l.e l.fn.drawing l.group;
}
