use Rattle.std.proofs.Common.{arith}
use Rattle.wall_skin.proofs.Middles.{middle_of-le}
use Rattle.wall_skin.proofs.walling.middle.Goals as goal

pub returns-clause-within : goal.returns-clause-within
returns-clause-within c =
    let t = middle_of-le c.args.width c.args.count c.args.k c.requires.width_some c.requires.below in
    omega (arith, t, c.depth.ensures.exact)
