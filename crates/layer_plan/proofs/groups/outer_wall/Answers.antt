use Rattle.std.proofs.Common.{◌≡◌, List, take, sym, ap, ◌∙◌, subst}
use Rattle.std.specs.List.{All}
use Rattle.std.proofs.lemmas.List.Elements.{All-take}
use Rattle.plan_types.specs.Areas.{IsArea}
use Rattle.path_order.specs.declared.pieces.Piece.{Piece}
use Rattle.layer_plan.specs.Pieces.{loops_of_all}
use Rattle.layer_plan.specs.Inner.Sound.{IsPiece}
use Rattle.layer_plan.proofs.Soundness.{walls-pieces}
use Rattle.layer_plan.proofs.groups.outer_wall.Goals as goal

pub returns-clause-group : goal.returns-clause-group
returns-clause-group c =
    let walls = c.areas.inside.walls in
    let is : c.in_ok-loops_of_all.field-0 ≡ loops_of_all (take 1 walls) =
    c.in_ok-loops_of_all.ensures ∙ ap loops_of_all (c.first_alone.ensures ∙ ap (take 1) c.items.ensures) in
    record {
      pieces_are = subst (λ (ps : List Piece). All IsPiece ps) (sym is) (walls-pieces (take 1 walls) (All-take IsArea 1 walls c.areas.invariant.walls_are));
      pen_is = c.pen_of.ensures.pen;
    }
