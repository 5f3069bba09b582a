use Rattle.std.proofs.Common.{◌∙◌, ◌*◌, ◌+◌, List, [], ◌∷◌, ◌++◌, sym, subst, unsigned_abs}
use Rattle.std.specs.List.{All}
use Rattle.std.proofs.lemmas.List.Elements.{All-push, All-get_or, All-same}
use Rattle.slice_base.specs.declared.points.Pt.{Pt}
use Rattle.slice_base.specs.Boxes.{IsIn, grown}
use Rattle.offset_core.proofs.Shapes.{loops-step}
use Rattle.offset_core.proofs.loops.moved_loops.Goals as goal

pub loop-l-preserved : goal.loop-l-preserved
loop-l-preserved c =
    let l = c.loop-l in
    let h = unsigned_abs c.args.d.by in
    let ls = c.loops-l-items.result.now in
    let item = c.l-item.result in
    let x = c.in_ok-moved_loop.field-0 in
    let pushed = c.in_ok-push.ensures.ok in
    let at = c.l-item.is in
    let read = c.points.ensures in
    let is = rw read at c.in_ok-moved_loop.ensures.is in
    record {
      so_far = loops-step c.args.d.by item x ls l.l-index l.moved c.push.new.self _ c.loop-l-test.true at is pushed l.invariant.so_far;
      within = λ box inside.
          let there = subst (λ (m : List (List Pt)). All (All (IsIn box)) m) (sym c.loops-l-items.ensures) inside in
          let here = subst (λ (m : List Pt). All (IsIn box) m) (sym (read ∙ at)) (All-get_or (All (IsIn box)) ls l.l-index item c.loop-l-test.true there) in
          All-same (All (IsIn (grown (3 * h + 3) box))) c.push.new.self (l.moved ++ x ∷ []) pushed
          (All-push (All (IsIn (grown (3 * h + 3) box))) l.moved x (l.invariant.within box inside) (c.in_ok-moved_loop.ensures.within box here));
    }
