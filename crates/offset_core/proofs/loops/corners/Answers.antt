use Rattle.std.proofs.Common.{◌≡◌, ◌*◌, ◌+◌, ◌-◌, List, ◌++◌, sym, subst, unsigned_abs, length, get_or, take, drop}
use Rattle.std.specs.List.{All}
use Rattle.std.proofs.lemmas.List.Elements.{All-append, All-get_or, All-take, All-drop}
use Rattle.slice_base.specs.declared.points.Pt.{Pt}
use Rattle.slice_base.specs.Plane.{InSquare}
use Rattle.slice_base.specs.Boxes.{Box, IsIn, grown}
use Rattle.offset_core.proofs.Shapes.{all_near-in, corners-step, origin}
use Rattle.offset_core.proofs.loops.corners.Goals as goal

more-in : (box : Box) (xs ys new : List Pt) → new ≡ xs ++ ys → All (IsIn box) xs → All (IsIn box) ys → All (IsIn box) new
more-in box xs ys new e h i = subst (λ (l : List Pt). All (IsIn box) l) (sym e) (All-append (IsIn box) xs ys h i)

pub loop-q-preserved : goal.loop-q-preserved
loop-q-preserved c =
    let l = c.loop-q in
    let h = unsigned_abs c.args.d.by in
    let points = c.args.points.now in
    let others = take (length points - 1) (drop 1 points) in
    let below = c.loop-q-test.true in
    record {
      a_in = l.invariant.p_in;
      p_in = All-get_or (InSquare 1700000) others l.q-index origin below (All-take (InSquare 1700000) (length points - 1) (drop 1 points) (All-drop (InSquare 1700000) 1 points c.requires.points_in));
      so_far = corners-step c.args.d.by (get_or points 0 origin) l.a l.p others l.q-index l.corners c.push_corner.new.points _ below c.in_ok-push_corner.ensures.ok l.invariant.so_far;
      p_boxed = λ box inside. All-get_or (IsIn box) others l.q-index origin below (All-take (IsIn box) (length points - 1) (drop 1 points) (All-drop (IsIn box) 1 points inside));
      within = λ box inside. more-in (grown (3 * h + 3) box) l.corners _ c.push_corner.new.points c.in_ok-push_corner.ensures.ok (l.invariant.within box inside)
          (all_near-in box h l.p _ (l.invariant.p_boxed box inside) c.in_ok-push_corner.ensures.near);
    }

pub returns-clause-within : goal.returns-clause-within
returns-clause-within c = λ box inside.
    let h = unsigned_abs c.args.d.by in
    more-in (grown (3 * h + 3) box) c.loop-q.corners _ c.push_corner-2.new.points c.in_ok-push_corner-2.ensures.ok (c.loop-q.invariant.within box inside)
    (all_near-in box h c.loop-q.p _ (c.loop-q.invariant.p_boxed box inside) c.in_ok-push_corner-2.ensures.near)
