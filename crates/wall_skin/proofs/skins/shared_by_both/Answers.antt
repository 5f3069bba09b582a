use Rattle.std.proofs.Common.{◌≡◌, ◌∙◌, List, sym, ap, subst, Ok, Err}
use Rattle.std.proofs.lemmas.Result.{IfOk-weaker, err_from_is_err_and}
use Rattle.slice_base.specs.declared.points.Pt.{Pt}
use Rattle.edge_cut.specs.Faults.{IsCutFault}
use Rattle.wall_skin.specs.Skin.{shared_of}
use Rattle.std.specs.Prelude.{MatchResult}
use Rattle.wall_skin.proofs.Splits.{none-first, shared-append, shared-append-fault}
use Rattle.wall_skin.proofs.skins.shared_by_both.Goals as goal

pub returns-then-count-eq0-clause-answer : goal.returns-then-count-eq0-clause-answer
returns-then-count-eq0-clause-answer c =
    let n = none-first c.args.lower.now c.args.upper.now c.if-count-eq0.true in
    subst (λ (l : List (List (List Pt))). MatchResult c.shared.result (λ r. shared_of l ≡ Ok r) (IsCutFault (shared_of l))) (sym n) c.shared.ensures.answer

pub returns-in_err-first-clause-answer : goal.returns-in_err-first-clause-answer
returns-in_err-first-clause-answer c =
    let p = err_from_is_err_and c.from_residual.result c.from_residual.ensures.1 in
    let e = p.1 ∙ ap Err p.2 in
    let some = c.if-count-eq0.false in
    rw e (shared-append-fault c.args.lower.now c.args.upper.now c.in_err-first.field-0.0 some c.in_err-first.ensures.answer)

pub returns-clause-answer : goal.returns-clause-answer
returns-clause-answer c =
    let some = c.if-count-eq0.false in
    let s = shared-append c.args.lower.now c.args.upper.now c.in_ok-first.first some c.in_ok-first.ensures.answer in
    rw s c.meet_all.ensures.answer

pub returns-clause-within : goal.returns-clause-within
returns-clause-within c = IfOk-weaker c.meet_all.result _ _ (λ r inside box lo up. inside box (c.in_ok-first.ensures.within box lo) up) c.meet_all.ensures.within
