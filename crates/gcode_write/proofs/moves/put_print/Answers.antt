use Rattle.std.proofs.Common.{◌++◌, ◌∙◌, ◌≡◌, take, drop, get_or, length, ◌-◌, ap, sym, Some, arith}
use Rattle.std.proofs.lemmas.List.{take_rest}
use Rattle.plan_types.specs.Paths.{PathValue}
use Rattle.gcode_write.specs.Filament.{line_area_of}
use Rattle.gcode_write.specs.Paths.{approach_of, kind_change_of, is_same_kind, print_moves_of, print_of}
use Rattle.gcode_write.proofs.Points.{nowhere, print_of-first}
use Rattle.outside.specs.Pens.{Wrote}
use Rattle.gcode_write.proofs.moves.put_print.Goals as goal

pub returns-in-len1-up-clause-wrote : goal.returns-in-len1-up-clause-wrote
returns-in-len1-up-clause-wrote g c =
    let out = g.S.Sink.output in
    let laws = c.pens_add_up.ensures in
    let p0 = c.args.pen.now in
    let x = c.args.x.now in
    let path = c.args.path.now in
    let v = c.args.volume in
    let ps = c.points.result.now in
    let points : ps ≡ path.points = c.points.ensures ∙ ap (λ (q : PathValue). q.points) c.path.view_is in
    let p1 = c.put_approach.new.pen in
    let t1 = approach_of x path.retract v (get_or ps 0 nowhere) c.args.z in
    let w1 : Wrote out p0 t1 p1 = laws.same p0 p1 (approach_of x c.path.inside.retract v (get_or ps 0 nowhere) c.args.z) t1 (ap (λ (q : PathValue). approach_of x q.retract v (get_or ps 0 nowhere) c.args.z) c.path.view_is) c.put_approach.ensures in
    let p2 = c.put_kind_change.new.pen in
    let t2 = kind_change_of (is_same_kind c.args.kind path.kind) path.kind in
    let w2 : Wrote out p1 t2 p2 = laws.same p1 p2 (kind_change_of c.is_same_kind.result c.path.inside.kind) t2 (ap (λ b. kind_change_of b c.path.inside.kind) c.is_same_kind.ensures ∙ ap (λ (q : PathValue). kind_change_of (is_same_kind c.args.kind q.kind) q.kind) c.path.view_is) c.put_kind_change.ensures in
    let p3 = c.put_print_moves.new.pen in
    let t3 = print_moves_of x (line_area_of path) (Some path.speed) v (get_or ps 0 nowhere) (drop 1 ps) in
    let w3 : Wrote out p2 t3 p3 = laws.same p2 p3 (print_moves_of x c.line_area.result (Some c.path.inside.speed) v (get_or ps 0 nowhere) (take (length ps - 1) (drop 1 ps))) t3 (ap (λ n. print_moves_of x n (Some c.path.inside.speed) v (get_or ps 0 nowhere) (take (length ps - 1) (drop 1 ps))) c.line_area.ensures ∙ ap (λ (q : PathValue). print_moves_of x (line_area_of path) (Some q.speed) v (get_or ps 0 nowhere) (take (length ps - 1) (drop 1 ps))) c.path.view_is ∙ ap (print_moves_of x (line_area_of path) (Some path.speed) v (get_or ps 0 nowhere)) (take_rest ps 1)) c.put_print_moves.ensures.wrote in
    let a2 : Wrote out p0 (t1 ++ t2) p2 = laws.append p0 p1 p2 t1 t2 w1 w2 in
    let a3 : Wrote out p0 (t1 ++ t2 ++ t3) p3 = laws.append p0 p2 p3 (t1 ++ t2) t3 a2 w3 in
    laws.same p0 p3 (t1 ++ t2 ++ t3) (print_of x c.args.z c.args.kind v path path.points) (sym (print_of-first x c.args.z c.args.kind v path ps nowhere (omega (arith, c.in-len1-up.len_at_least))) ∙ ap (print_of x c.args.z c.args.kind v path) points) a3
