use Rattle.std.proofs.Common.{◌≡◌, ◌≤◌, ◌++◌, List, length, drop, sym, ap, ◌∙◌, arith}
use Rattle.std.proofs.lemmas.List.{append-nil, length-drop}
use Rattle.slice_base.specs.declared.points.Edge.{Edge}
use Rattle.infill_lines.proofs.Pairing.{paired-short}
use Rattle.infill_lines.proofs.pairs.push_pairs.Goals as goal

pub returns : goal.returns
returns c =
    let ps = c.args.places.now in
    let i = c.pairs.i in
    let edges = c.pairs.edges.items in
    let short : length (drop i ps) ≤ 1 = omega (arith, length-drop i ps) in
    sym (append-nil edges) ∙ ap (λ (es : List Edge). edges ++ es) (sym (paired-short c.args.angle (drop i ps) short)) ∙ c.pairs.invariant.so_far
