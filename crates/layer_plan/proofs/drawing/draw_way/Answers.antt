use Rattle.std.proofs.Common.{rules, ◌≡◌, ◌++◌, ◌∷◌, [], refl, sym, ap, ◌∙◌, subst}
use Rattle.slice_base.specs.declared.points.Pt.{Pt}
use Rattle.slice_base.specs.Plane.{InSquare}
use Rattle.plan_types.specs.Paths.{PathValue as Path}
use Rattle.layer_plan.specs.Drawing.{last_or, path_along}
use Rattle.layer_plan.proofs.Soundness.{last_or-in}
use Rattle.layer_plan.proofs.Volumes.{volume-small, drawing-more}
use Rattle.layer_plan.proofs.drawing.draw_way.Goals as goal

pub returns-clause-drawing : goal.returns-clause-drawing
returns-clause-drawing c =
    let d = c.args.drawing.now in
    let path : Path = path_along c.args.pen c.args.points c.retracts-retract.result in
    let is : c.last_or-end.result ≡ last_or d.at c.args.points = c.last_or-end.ensures ∙ ap (last_or d.at) c.points-2.ensures in
    let pushed : c.push.new.self ≡ d.paths ++ path ∷ [] = search rules in
    drawing-more d (record { at = c.last_or-end.result; paths = c.push.new.self }) path pushed
    (subst (λ (p : Pt). InSquare 1700000 p) (sym is) (last_or-in d.at c.args.points c.requires.drawing.at_in c.requires.way.inside))
    (volume-small c.args.pen c.args.points c.retracts-retract.result c.requires.pen c.requires.way) refl c.requires.drawing
