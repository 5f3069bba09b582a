use Rattle.std.proofs.Common.{List, sym, subst}
use Rattle.std.specs.List.{All}
use Rattle.std.proofs.lemmas.Result.{IfOk-weaker}
use Rattle.slice_base.specs.declared.points.Edge.{Edge}
use Rattle.slice_base.specs.Boxes.{EdgeIn}
use Rattle.area_stage.proofs.outlines.stitched.Goals as goal

pub returns-clause-within : goal.returns-clause-within
returns-clause-within c = IfOk-weaker c.stitch.result _ _
    (λ s inside box h. inside box (subst (λ (es : List Edge). All (EdgeIn box) es) (sym c.as_slice.ensures.value) (c.in_ok-edges.ensures.within box h)))
    c.stitch.ensures.within
