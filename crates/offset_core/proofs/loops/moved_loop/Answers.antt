use Rattle.std.proofs.Common.{◌∙◌, List, sym, subst}
use Rattle.std.specs.List.{All}
use Rattle.std.proofs.lemmas.Result.{IfOk-weaker}
use Rattle.slice_base.specs.declared.points.Pt.{Pt}
use Rattle.slice_base.specs.Plane.{InSquare}
use Rattle.slice_base.specs.Boxes.{IsIn}
use Rattle.offset_core.proofs.Shapes.{apart_of-all}
use Rattle.offset_core.proofs.loops.moved_loop.Goals as goal

pub corners-requires-clause-points_in : goal.corners-requires-clause-points_in
corners-requires-clause-points_in c =
    let e = c.points.ensures ∙ c.in_ok-apart.ensures in
    subst (λ (l : List Pt). All (InSquare 1700000) l) (sym e) (apart_of-all (InSquare 1700000) c.args.points.now c.requires.points_in)

pub returns-clause-within : goal.returns-clause-within
returns-clause-within c =
    let e = c.points.ensures ∙ c.in_ok-apart.ensures in
    IfOk-weaker c.corners.result _ _
    (λ moved inside box h. inside box (subst (λ (l : List Pt). All (IsIn box) l) (sym e) (apart_of-all (IsIn box) c.args.points.now h)))
    c.corners.ensures.within
