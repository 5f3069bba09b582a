use Rattle.std.proofs.Common.{rules, ◌++◌, codes, ap, ◌∙◌, w32}
use mir.Val.{SFits}
use Rattle.std.proofs.lemmas.Int.{to_z-of_z}
use Rattle.gcode_text.specs.Numbers.{millimetres_of}
use Rattle.gcode_text.proofs.Texts.{four_pieces}
use Rattle.gcode_text.proofs.append.append_point.Goals as goal

pub returns-clause-items : goal.returns-clause-items
returns-clause-items c =
    let x : SFits w32 c.args.p.x = search rules in
    let y : SFits w32 c.args.p.y = search rules in
    let p0 = c.args.line.now.items in
    let p1 = c.append.new.line.items in
    let p2 = c.append_millimetres.new.line.items in
    let p3 = c.append-2.new.line.items in
    let p4 = c.append_millimetres-2.new.line.items in
    four_pieces p0 p1 p2 p3 p4 (codes " X") (millimetres_of c.args.p.x) (codes " Y") (millimetres_of c.args.p.y)
    c.append.ensures.items
    (c.append_millimetres.ensures.items ∙ ap (λ v. p1 ++ millimetres_of v) (to_z-of_z w32 c.args.p.x x))
    c.append-2.ensures.items
    (c.append_millimetres-2.ensures.items ∙ ap (λ v. p3 ++ millimetres_of v) (to_z-of_z w32 c.args.p.y y))
