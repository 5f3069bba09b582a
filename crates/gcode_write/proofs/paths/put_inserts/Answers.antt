use Rattle.std.proofs.Common.{◌+◌, drop, get_or, ap}
use Rattle.std.proofs.lemmas.List.{drop_more}
use Rattle.std.proofs.Math.ListN.{drop_of_length-le}
use Rattle.gcode_write.specs.Paths.{insert_of, inserts_of}
use Rattle.gcode_write.proofs.Points.{no_insert}
use Rattle.gcode_write.proofs.paths.put_inserts.Goals as goal

pub loop-insert-init : goal.loop-insert-init
loop-insert-init g c = c.pens_add_up.ensures.start c.args.pen.now (inserts_of c.args.at c.args.inserts.now)

pub loop-insert-preserved : goal.loop-insert-preserved
loop-insert-preserved g c =
    let l = c.loop-insert in
    let xs = c.args.inserts.now in
    let i = l.insert-index in
    let text = inserts_of c.args.at in
    c.pens_add_up.ensures.step c.args.pen.now l.pen c.put_insert.new.pen (text xs) (text (drop i xs)) (insert_of c.args.at (get_or xs i no_insert)) (text (drop (i + 1) xs)) l.invariant (ap text (drop_more xs i no_insert c.loop-insert-test.true)) c.put_insert.ensures

pub returns : goal.returns
returns g c =
    let l = c.loop-insert in
    let xs = c.args.inserts.now in
    let text = inserts_of c.args.at in
    c.pens_add_up.ensures.last c.args.pen.now l.pen (text xs) (text (drop l.insert-index xs)) l.invariant (ap text (drop_of_length-le xs c.loop-insert-test.false))
