use Rattle.std.proofs.Common.{◌≡◌, ◌++◌, List, sym, ap, ◌∙◌, subst}
use Rattle.std.specs.List.{All}
use Rattle.path_order.specs.declared.pieces.Piece.{Piece}
use Rattle.layer_plan.specs.Pieces.{loops_of}
use Rattle.layer_plan.specs.Inner.Sound.{IsPiece}
use Rattle.layer_plan.proofs.Soundness.{loops-pieces}
use Rattle.layer_plan.proofs.groups.skirt_group.Goals as goal

pub returns-clause-group : goal.returns-clause-group
returns-clause-group c =
    let skirt = c.args.skirt.now in
    let is : c.push_loops.new.pieces ≡ loops_of skirt = c.in_ok-push_loops.ensures ∙ ap (λ (ps : List Piece). ps ++ loops_of skirt) c.new-pieces.ensures in
    record {
      pieces_are = subst (λ (ps : List Piece). All IsPiece ps) (sym is) (loops-pieces skirt c.requires.loops);
      pen_is = c.pen_of.ensures.pen;
    }
