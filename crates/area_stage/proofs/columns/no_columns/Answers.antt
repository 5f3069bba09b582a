use Rattle.std.proofs.Common.{◌∙◌, List, [], ◌∷◌, ◌++◌, ap}
use Rattle.slice_base.specs.declared.points.Pt.{Pt}
use Rattle.area_stage.proofs.Inners.{no_columns-more}
use Rattle.area_stage.proofs.columns.no_columns.Goals as goal

pub loop-preserved : goal.loop-preserved
loop-preserved c =
    c.in_ok-push.ensures.ok
    ∙ (ap (λ (x : List (List (List Pt))). c.loop.columns ++ x ∷ []) c.new.ensures
    ∙ (ap (λ (l : List (List (List (List Pt)))). l ++ [] ∷ []) c.loop.invariant ∙ no_columns-more c.loop.counter))
