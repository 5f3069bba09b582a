use Rattle.std.proofs.Common.{◌∙◌, ap, Err}
use Rattle.std.proofs.lemmas.Result.{err_from_is_err_and}
use Rattle.wall_skin.proofs.Middles.{walls-loops_fault, walls-inner_fault, walls-are}
use Rattle.slice_base.proofs.Outcomes.{up_to-length}
use Rattle.wall_skin.specs.Walls.{wall_of}
use Rattle.wall_skin.proofs.walling.walls_by.Goals as goal

pub returns-in_err-loops-clause-answer : goal.returns-in_err-loops-clause-answer
returns-in_err-loops-clause-answer c =
    let p = err_from_is_err_and c.from_residual.result c.from_residual.ensures.1 in
    let e = p.1 ∙ ap Err p.2 in
    rw e (walls-loops_fault c.args.outline.now c.args.count c.args.width c.in_err-loops.field-0.0 c.in_err-loops.ensures.answer)

pub returns-in_err-inner-clause-answer : goal.returns-in_err-inner-clause-answer
returns-in_err-inner-clause-answer c =
    let p = err_from_is_err_and c.from_residual-in_err-inner.result c.from_residual-in_err-inner.ensures.1 in
    let e = p.1 ∙ ap Err p.2 in
    rw e (walls-inner_fault c.args.outline.now c.args.count c.args.width c.in_ok-loops.loops c.in_err-inner.field-0.0 c.in_ok-loops.ensures.answer c.in_err-inner.ensures.answer)

pub returns-clause-as_many : goal.returns-clause-as_many
returns-clause-as_many c = up_to-length (wall_of c.args.outline.now c.args.width) c.args.count c.in_ok-loops.loops c.in_ok-loops.ensures.answer

pub returns-clause-answer : goal.returns-clause-answer
returns-clause-answer c = walls-are c.args.outline.now c.args.count c.args.width c.in_ok-loops.loops c.in_ok-inner.inner c.in_ok-loops.ensures.answer c.in_ok-inner.ensures.answer
