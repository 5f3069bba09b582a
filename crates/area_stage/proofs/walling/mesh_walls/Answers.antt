use Rattle.std.proofs.Common.{◌∙◌, ℕ, sym, ap, subst, Result, Err}
use Rattle.std.proofs.lemmas.Result.{err_from_is_err_and}
use Rattle.edge_cut.specs.Faults.{IsCutFault}
use Rattle.wall_skin.specs.declared.walling.WallSet.{WallSet}
use Rattle.area_stage.proofs.WallSteps.{walls-own_fault, walls-are}
use Rattle.area_stage.proofs.walling.mesh_walls.Goals as goal

pub returns-in_err-own-clause-answer : goal.returns-in_err-own-clause-answer
returns-in_err-own-clause-answer c = λ before h.
    let p = err_from_is_err_and c.from_residual.result c.from_residual.ensures.1 in
    let e = p.1 ∙ ap Err p.2 in
    rw e (walls-own_fault c.args.at.z before c.args.mesh.now c.args.m c.in_err-own.field-0.0 c.in_err-own.ensures.answer)

pub returns-in_err-set-clause-answer : goal.returns-in_err-set-clause-answer
returns-in_err-set-clause-answer c = λ before h.
    let p = err_from_is_err_and c.from_residual-in_err-set.result c.from_residual-in_err-set.ensures.1 in
    let e = p.1 ∙ ap Err p.2 in
    let w = walls-are c.args.at.z before c.args.mesh.now c.args.m c.in_ok-own.own.outline c.args.others.now c.in_ok-own.ensures.answer h in
    rw e (subst (λ (r : Result WallSet ℕ). IsCutFault r c.in_err-set.field-0.0) (sym w) c.in_err-set.ensures)

pub returns-clause-answer : goal.returns-clause-answer
returns-clause-answer c = λ before h.
    walls-are c.args.at.z before c.args.mesh.now c.args.m c.in_ok-own.own.outline c.args.others.now c.in_ok-own.ensures.answer h ∙ c.in_ok-set.ensures
