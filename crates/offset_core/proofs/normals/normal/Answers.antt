use Rattle.std.proofs.Common.{arith}
use Rattle.std.proofs.lemmas.Int.{ints}
use Rattle.offset_core.proofs.Parts.{long-x, long-y}
use Rattle.offset_core.proofs.normals.normal.Goals as goal

pub part-requires-clause-long : goal.part-requires-clause-long
part-requires-clause-long c =
    let t = long-y c.args.p c.args.q c.nanometres-whole.result c.nanometres-whole.ensures.near in
    let e = c.step.ensures.exact in
    omega (arith, ints)

pub part-requires-2-clause-long : goal.part-requires-2-clause-long
part-requires-2-clause-long c =
    let t = long-x c.args.p c.args.q c.nanometres-whole.result c.nanometres-whole.ensures.near in
    let e = c.step-2.ensures.exact in
    omega (arith, ints)
