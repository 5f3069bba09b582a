use Rattle.std.proofs.Common.{◌∙◌, ap, Err}
use Rattle.std.proofs.lemmas.Result.{err_from_is_err_and}
use Rattle.wall_skin.proofs.Splits.{split-skin_fault, split-fill_fault, split-is}
use Rattle.wall_skin.proofs.skins.skin_outside.Goals as goal

pub returns-in_err-skin-clause-answer : goal.returns-in_err-skin-clause-answer
returns-in_err-skin-clause-answer c =
    let p = err_from_is_err_and c.from_residual.result c.from_residual.ensures.1 in
    let e = p.1 ∙ ap Err p.2 in
    let fault = c.in_err-skin.field-0.0 in
    rw e (split-skin_fault c.args.inner.now c.args.shared.now fault c.in_err-skin.ensures.answer)

pub returns-in_err-fill-clause-answer : goal.returns-in_err-fill-clause-answer
returns-in_err-fill-clause-answer c =
    let p = err_from_is_err_and c.from_residual-in_err-fill.result c.from_residual-in_err-fill.ensures.1 in
    let e = p.1 ∙ ap Err p.2 in
    let fault = c.in_err-fill.field-0.0 in
    rw e (split-fill_fault c.args.inner.now c.args.shared.now c.in_ok-skin.skin fault c.in_ok-skin.ensures.answer c.in_err-fill.ensures.answer)

pub returns-clause-skin_small : goal.returns-clause-skin_small
returns-clause-skin_small c = record { few = c.in_ok-skin.ensures.few; least = c.in_ok-skin.ensures.least }

pub returns-clause-fill_small : goal.returns-clause-fill_small
returns-clause-fill_small c = record { few = c.in_ok-fill.ensures.few; least = c.in_ok-fill.ensures.least }

pub returns-clause-answer : goal.returns-clause-answer
returns-clause-answer c = split-is c.args.inner.now c.args.shared.now c.in_ok-skin.skin c.in_ok-fill.fill c.in_ok-skin.ensures.answer c.in_ok-fill.ensures.answer

pub returns-clause-skin_within : goal.returns-clause-skin_within
returns-clause-skin_within c = c.in_ok-skin.ensures.within

pub returns-clause-fill_within : goal.returns-clause-fill_within
returns-clause-fill_within c = λ box h i. c.in_ok-fill.ensures.within box h (c.in_ok-skin.ensures.within box h i)
