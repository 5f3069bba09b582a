use Rattle.std.proofs.Common.{◌≡◌, ◌∙◌, FitsSigned, w32, arith, rules}
use Rattle.std.specs.Int.{w128}
use Rattle.std.proofs.lemmas.Int.{to_z-of_z}
use Rattle.edge_cut.specs.Meeting.{coordinate_at}
use Rattle.edge_cut.proofs.MeetingLemmas.{coordinate_at-fits, coordinate_at-is, narrowed}
use Rattle.edge_cut.proofs.crossings.coordinate_at.Goals as goal

pub overflow_cast-result : goal.overflow_cast-result
overflow_cast-result c = grind (arith, to_z-of_z, coordinate_at-fits)

pub returns : goal.returns
returns c =
    let r = c.rounded.result in
    let f0 : FitsSigned w128 r = search rules in
    let f1 : FitsSigned w128 c.weigh.result = search rules in
    let f2 : FitsSigned w128 c.weigh-2.result = search rules in
    let g1 : FitsSigned w32 c.args.from = search rules in
    let g2 : FitsSigned w32 c.args.to = search rules in
    let e1 = simp to_z-of_z at c.weigh.ensures.exact in
    let e2 = simp to_z-of_z at c.weigh-2.ensures.exact in
    let e = simp to_z-of_z at c.rounded.ensures in
    let is : r ≡ coordinate_at c.args.from c.args.to c.args.part c.args.whole = coordinate_at-is c.args.from c.args.to c.weigh.result c.weigh-2.result r c.args.part c.args.whole e e1 e2 in
    narrowed r f0 (coordinate_at-fits c.args.from c.args.to r c.args.part c.args.whole is g1 g2 c.requires.part_in c.requires.positive) ∙ is
