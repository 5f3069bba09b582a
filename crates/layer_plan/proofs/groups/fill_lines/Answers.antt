use Rattle.std.proofs.Common.{◌≡◌, List, sym, ap, ◌∙◌, subst}
use Rattle.std.specs.List.{All}
use Rattle.slice_base.specs.Boxes.{around}
use Rattle.path_order.specs.declared.pieces.Piece.{Piece}
use Rattle.layer_plan.specs.Pieces.{lines_of}
use Rattle.layer_plan.specs.Inner.Sound.{IsPiece}
use Rattle.layer_plan.proofs.Soundness.{lines-pieces, area-boxed}
use Rattle.layer_plan.proofs.groups.fill_lines.Goals as goal

pub returns-clause-group : goal.returns-clause-group
returns-clause-group c =
    let is : c.in_ok-lines_of.field-0 ≡ lines_of c.in_ok-lines.lines.items = c.in_ok-lines_of.ensures ∙ ap lines_of c.as_slice.ensures.value in
    record {
      pieces_are = subst (λ (ps : List Piece). All IsPiece ps) (sym is) (lines-pieces c.in_ok-lines.lines.items (c.in_ok-lines.ensures.within (around 1600000) (area-boxed c.areas.inside.fill c.areas.invariant.fill_is)));
      pen_is = c.pen_of.ensures.pen;
    }
