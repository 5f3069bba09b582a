use Rattle.std.proofs.Common.{pos}
use Rattle.slice_base.specs.declared.points.Pt3.{Pt3}
use Rattle.slice_base.specs.declared.points.Tri.{Tri}
use Rattle.mesh_placing.specs.Places.{moved}
use Rattle.mesh_placing.proofs.Corners.{one_more}
use Rattle.mesh_placing.proofs.placing.move_all.Goals as goal

abbrev origin : Pt3
origin = record { x = pos 0; y = pos 0; z = pos 0 }

abbrev no_triangle : Tri
no_triangle = record { a = origin; b = origin; c = origin }

pub loop-t-preserved : goal.loop-t-preserved
loop-t-preserved c =
    one_more (moved c.args.by) c.args.tris.now c.loop-t.tris c.loop-t.t-index no_triangle c.moved.result c.loop-t-test.true c.loop-t.auto.tris c.loop-t.invariant c.moved.ensures
