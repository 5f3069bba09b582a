use Rattle.std.proofs.Common.{FitsSigned, w32, w64, rules}
use Rattle.std.proofs.lemmas.Int.{to_z-of_z}
use Rattle.clip_core.proofs.Beside.{slope-is}
use Rattle.clip_core.proofs.slopes.slope_of.Goals as goal

pub returns-clause-is : goal.returns-clause-is
returns-clause-is c =
    let g0 : FitsSigned w32 c.args.ends.low.x = search rules in
    let g1 : FitsSigned w32 c.args.ends.low.y = search rules in
    let g2 : FitsSigned w32 c.args.ends.high.x = search rules in
    let g3 : FitsSigned w32 c.args.ends.high.y = search rules in
    let f0 : FitsSigned w64 c.total-low.result = search rules in
    let f1 : FitsSigned w64 c.total-high.result = search rules in
    let f2 : FitsSigned w64 c.total-begin.result = search rules in
    let f3 : FitsSigned w64 c.total-end.result = search rules in
    let f6 : FitsSigned w64 c.way.result = search rules in
    let f7 : FitsSigned w64 c.way-2.result = search rules in
    let e0 = simp to_z-of_z at c.total-low.ensures.exact in
    let e1 = simp to_z-of_z at c.total-high.ensures.exact in
    let e2 = simp to_z-of_z at c.total-begin.ensures.exact in
    let e3 = simp to_z-of_z at c.total-end.ensures.exact in
    let e6 = simp to_z-of_z at c.way.ensures.exact in
    let e7 = simp to_z-of_z at c.way-2.ensures.exact in
    rw (to_z-of_z w64 c.total-low.result f0, to_z-of_z w64 c.total-begin.result f2, to_z-of_z w64 c.way.result f6, to_z-of_z w64 c.way-2.result f7)
    (slope-is c.args.ends c.total-low.result c.total-high.result c.total-begin.result c.total-end.result c.way.result c.way-2.result e0 e1 e2 e3 e6 e7 c.total-low.ensures.small c.total-begin.ensures.small c.way.ensures.small c.way-2.ensures.small)
