use Rattle.std.proofs.Common.{◌≡◌, List, sym, ap, ◌∙◌, subst}
use Rattle.slice_base.specs.declared.points.Pt.{Pt}
use Rattle.layer_plan.specs.Pieces.{turned, closed_up}
use Rattle.layer_plan.specs.Inner.Sound.{IsWay}
use Rattle.layer_plan.proofs.Soundness.{closed-way, open-way}
use Rattle.layer_plan.proofs.pieces.way_of.Goals as goal

pub returns-in_ok-closed_up-clause-way : goal.returns-in_ok-closed_up-clause-way
returns-in_ok-closed_up-clause-way c =
    let p = c.args.piece.now in
    let is : c.from_vec.result ≡ closed_up (turned c.args.start p.points) =
    c.from_vec.ensures ∙ c.in_ok-closed_up.ensures ∙ ap closed_up (c.in_ok-way.ensures ∙ ap (turned c.args.start) c.points.ensures) in
    subst (λ (ps : List Pt). IsWay ps) (sym is) (closed-way p c.args.start c.requires)

pub returns-else-piece-clause-way : goal.returns-else-piece-clause-way
returns-else-piece-clause-way c =
    let p = c.args.piece.now in
    let is : c.from_vec-else-piece.result ≡ turned c.args.start p.points =
    c.from_vec-else-piece.ensures ∙ c.in_ok-way.ensures ∙ ap (turned c.args.start) c.points.ensures in
    subst (λ (ps : List Pt). IsWay ps) (sym is) (open-way p c.args.start c.requires c.if-piece.false)
