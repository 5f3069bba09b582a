use Rattle.std.proofs.Common.{◌+◌, ◌∷◌, refl, sym, drop}
use Rattle.slice_base.specs.Boxes.{around}
use Rattle.slice_base.specs.Outcomes.{fold_ok}
use Rattle.slice_base.proofs.Outcomes.{fold_ok-step, drop-item}
use Rattle.clip_core.specs.declared.keeping.Operation.TheVariants.{Unite}
use Rattle.clip_core.specs.Clip.{clipped_of}
use Rattle.area_stage.proofs.skirts.united.Goals as goal

pub loop-other-init : goal.loop-other-init
loop-other-init c =
    let others = c.args.others.now in
    record {
      so_far = fold_ok-step (clipped_of Unite) c.args.first.now c.in_ok-all.all c.args.second.now (c.args.second.now ∷ others) others (fold_ok (clipped_of Unite) c.args.first.now (c.args.second.now ∷ others)) refl c.in_ok-all.ensures.answer refl;
      within = c.in_ok-all.ensures.within (around 1000000) c.requires.first_inside c.requires.second_inside;
    }

pub loop-other-preserved : goal.loop-other-preserved
loop-other-preserved c =
    let l = c.loop-other in
    let others = c.args.others.now in
    let item = c.other-item.result in
    let is = drop-item others l.other-index item c.loop-other-test.true c.other-item.is in
    record {
      so_far = fold_ok-step (clipped_of Unite) l.all c.in_ok-all-2.all item (drop l.other-index others) (drop (l.other-index + 1) others) (fold_ok (clipped_of Unite) c.args.first.now (c.args.second.now ∷ others)) is (rw (sym c.other.view_is) c.in_ok-all-2.ensures.answer) l.invariant.so_far;
      within = c.in_ok-all-2.ensures.within (around 1000000) l.invariant.within c.other.invariant.inside;
    }
