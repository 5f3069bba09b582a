use Rattle.std.proofs.Common.{List, sym, subst}
use Rattle.std.specs.List.{All}
use Rattle.slice_base.specs.Boxes.{EdgeIn}
use Rattle.slice_base.specs.declared.points.Edge.{Edge}
use Rattle.infill_lines.proofs.Insides.{lines-in}
use Rattle.infill_lines.proofs.filling.fill_inside.Goals as goal

pub returns-clause-within : goal.returns-clause-within
returns-clause-within c = λ box h.
    subst (λ (es : List Edge). All (EdgeIn box) es) (sym c.in_ok-edges.ensures)
    (lines-in box c.args.lines.count c.args.angle c.args.region.now c.args.lines.step c.args.lines.first 0 h)
