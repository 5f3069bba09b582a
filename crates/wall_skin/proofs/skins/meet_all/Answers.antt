use Rattle.std.proofs.Common.{◌∙◌, ◌+◌, sym, ap, subst, drop, Err}
use Rattle.std.proofs.lemmas.Result.{err_from_is_err_and}
use Rattle.std.proofs.lemmas.List.Elements.{All-get_or}
use Rattle.slice_base.specs.Regions.{RegionIn}
use Rattle.slice_base.specs.Outcomes.{fold_ok}
use Rattle.clip_core.specs.declared.keeping.Operation.TheVariants.{Meet}
use Rattle.clip_core.specs.Clip.{clipped_of}
use Rattle.slice_base.proofs.Outcomes.{fold_ok-step, drop-item}
use Rattle.wall_skin.proofs.Faults.{fold_ok-fault}
use Rattle.wall_skin.proofs.skins.meet_all.Goals as goal

pub loop-other-preserved : goal.loop-other-preserved
loop-other-preserved c =
    let l = c.loop-other in
    let others = c.args.others.now in
    let item = c.other-item.result in
    let is = drop-item others l.other-index item c.loop-other-test.true c.other-item.is in
    record {
      so_far = fold_ok-step (clipped_of Meet) l.shared c.in_ok-shared.shared item (drop l.other-index others) (drop (l.other-index + 1) others) (fold_ok (clipped_of Meet) c.args.first others) is c.in_ok-shared.ensures.answer l.invariant.so_far;
      within = λ box h i. c.in_ok-shared.ensures.within box (l.invariant.within box h i) (subst (RegionIn box) (sym c.other-item.is) (All-get_or (RegionIn box) others l.other-index item c.loop-other-test.true i));
    }

pub returns-in_err-shared-clause-answer : goal.returns-in_err-shared-clause-answer
returns-in_err-shared-clause-answer c =
    let p = err_from_is_err_and c.from_residual.result c.from_residual.ensures.1 in
    let e = p.1 ∙ ap Err p.2 in
    let l = c.loop-other in
    let others = c.args.others.now in
    let item = c.other-item.result in
    let fault = c.in_err-shared.field-0.0 in
    let is = drop-item others l.other-index item c.loop-other-test.true c.other-item.is in
    rw e (fold_ok-fault (clipped_of Meet) l.shared item (drop l.other-index others) (drop (l.other-index + 1) others) (fold_ok (clipped_of Meet) c.args.first others) fault is
    c.in_err-shared.ensures.answer l.invariant.so_far)
