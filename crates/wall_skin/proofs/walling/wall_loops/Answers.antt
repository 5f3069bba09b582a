use Rattle.std.proofs.Common.{◌≡◌, ◌∙◌, ◌*◌, ℕ, ◌+◌, [], ◌∷◌, ◌++◌, pos, neg_ℤ, arith, ap, subst, Ok, Err}
use Rattle.std.proofs.lemmas.Result.{err_from_is_err_and}
use Rattle.std.proofs.lemmas.List.Elements.{All-nil, All-push, All-same}
use Rattle.slice_base.specs.Boxes.{grown}
use Rattle.slice_base.specs.Regions.{RegionIn}
use Rattle.edge_cut.specs.Faults.{IsCutFault}
use Rattle.wall_skin.specs.Sizes.{IsSmall}
use Rattle.offset_core.specs.Offset.{offset_of}
use Rattle.slice_base.proofs.Outcomes.{up_to-none, up_to-ok}
use Rattle.wall_skin.proofs.Faults.{up_to-fault}
use Rattle.wall_skin.specs.Walls.{wall_of}
use Rattle.wall_skin.proofs.walling.wall_loops.Goals as goal

pub loop-k-init : goal.loop-k-init
loop-k-init c = rw c.new-walls.ensures (record {
  so_far = up_to-none (wall_of c.args.outline.now c.args.width);
  small = All-nil IsSmall;
  within = λ box h. All-nil (RegionIn (grown (3 * c.args.most + 3) box));
})

pub loop-k-preserved : goal.loop-k-preserved
loop-k-preserved c =
    let l = c.loop-k in
    let x = c.in_ok-inset.field-0 in
    let pushed = c.in_ok-push.ensures.ok in
    record {
      so_far = up_to-ok (wall_of c.args.outline.now c.args.width) l.k l.walls c.push.new.self x l.invariant.so_far
          (subst (λ (n : ℕ). offset_of (neg_ℤ (pos n)) c.args.outline.now ≡ Ok c.in_ok-inset.field-0) c.middle-by.ensures.exact c.in_ok-inset.ensures.answer) pushed;
      small = All-same IsSmall c.push.new.self (l.walls ++ x ∷ []) pushed (All-push IsSmall l.walls x l.invariant.small c.in_ok-inset.ensures.small);
      within = λ box h. All-same (RegionIn (grown (3 * c.args.most + 3) box)) c.push.new.self (l.walls ++ x ∷ []) pushed
          (All-push (RegionIn (grown (3 * c.args.most + 3) box)) l.walls x (l.invariant.within box h) (c.in_ok-inset.ensures.within box h));
    }

pub inset-requires-clause-some : goal.inset-requires-clause-some
inset-requires-clause-some c = omega (arith, c.middle-by.ensures.within, c.requires.most_is)

pub returns-in_err-inset-clause-answer : goal.returns-in_err-inset-clause-answer
returns-in_err-inset-clause-answer c =
    let p = err_from_is_err_and c.from_residual.result c.from_residual.ensures.1 in
    let e = p.1 ∙ ap Err p.2 in
    let fault = c.in_err-inset.field-0.0 in
    rw e (up_to-fault (wall_of c.args.outline.now c.args.width) c.loop-k.k c.args.count c.loop-k.walls fault c.loop-k.invariant.so_far c.loop-k-test.true
    (subst (λ (n : ℕ). IsCutFault (offset_of (neg_ℤ (pos n)) c.args.outline.now) fault) c.middle-by.ensures.exact c.in_err-inset.ensures.answer))
