use Rattle.std.proofs.Common.{◌≡◌, ◌++◌, [], List, sym, ap, ◌∙◌, subst}
use Rattle.std.specs.List.{All}
use Rattle.slice_base.specs.declared.points.Edge.{Edge}
use Rattle.infill_lines.specs.declared.angles.Place.{Place}
use Rattle.infill_lines.specs.Fill.{in_order, paired, lines_from}
use Rattle.infill_lines.specs.Inner.Rows.{line_at}
use Rattle.infill_lines.specs.Inner.Sorting.{IsOnLine}
use Rattle.infill_lines.proofs.Counting.{lines-more}
use Rattle.infill_lines.proofs.Insides.{crossings-on}
use Rattle.infill_lines.proofs.filling.lines_from.Goals as goal

pub push_inside-requires : goal.push_inside-requires
push_inside-requires c =
    let row = c.row_at.ensures ∙ c.requires.rows.filed c.loop-k.k c.loop-k-test.true in
    let line = line_at c.args.lines c.loop-k.k in
    subst (λ z. All (IsOnLine z) c.row_at.result.now) (sym c.line_at.ensures)
    (subst (λ (ps : List Place). All (IsOnLine line) ps) (sym row) (crossings-on c.args.angle c.args.region.now line c.requires.inside))

pub loop-k-preserved : goal.loop-k-preserved
loop-k-preserved c =
    let lines = c.args.lines in
    let edges = c.loop-k.edges.items in
    let row = c.row_at.ensures ∙ c.requires.rows.filed c.loop-k.k c.loop-k-test.true in
    lines-more c.args.angle c.args.region.now lines.step lines.count c.loop-k.k lines.first edges c.push_inside.new.edges.items (lines_from lines.count c.args.angle c.args.region.now lines.step lines.first 0) c.loop-k-test.true
    (c.in_ok-push_inside.ensures ∙ ap (λ (ps : List Place). edges ++ paired c.args.angle (in_order [] ps)) row) c.loop-k.invariant
