use Rattle.std.proofs.Common.{get_or, Some, arith}
use Rattle.std.proofs.lemmas.List.Elements.{All-get_or}
use Rattle.slice_base.specs.Plane.{InSquare}
use Rattle.gcode_write.proofs.Points.{nowhere}
use Rattle.gcode_write.proofs.Walks.{next_small, move_step}
use Rattle.gcode_write.proofs.moves.put_print_moves.Goals as goal

pub overflow_add-total : goal.overflow_add-total
overflow_add-total g c =
    let l = c.loop-p in
    omega (arith, next_small g.S.Sink.output c.args.x.now c.args.area (Some c.args.speed) c.args.volume c.args.from c.args.points.now c.args.pen.now l.p-index l.told l.total l.at l.pen c.move_volume-total.result c.loop-p-test.true l.invariant c.move_volume-total.ensures c.requires.small)

pub put_print_move-requires : goal.put_print_move-requires
put_print_move-requires g c =
    let l = c.loop-p in
    next_small g.S.Sink.output c.args.x.now c.args.area (Some c.args.speed) c.args.volume c.args.from c.args.points.now c.args.pen.now l.p-index l.told l.total l.at l.pen c.move_volume-total.result c.loop-p-test.true l.invariant c.move_volume-total.ensures c.requires.small

pub loop-p-preserved : goal.loop-p-preserved
loop-p-preserved g c =
    let l = c.loop-p in
    let ps = c.args.points.now in
    move_step g.S.Sink.output c.pens_add_up.ensures c.args.x.now c.args.area (Some c.args.speed) c.args.volume c.args.from ps c.args.pen.now l.p-index l.told l.total l.at l.pen c.move_volume-total.result c.put_print_move.new.pen
    c.loop-p-test.true l.invariant c.move_volume-total.ensures c.put_print_move.ensures (All-get_or (InSquare 1700000) ps l.p-index nowhere c.loop-p-test.true c.requires.points)
