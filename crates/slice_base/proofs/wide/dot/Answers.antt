use Rattle.std.proofs.Common.{arith}
use Rattle.std.proofs.lemmas.Int.{to_z-of_z}
use Rattle.slice_base.proofs.Products.{dot-is}
use Rattle.slice_base.proofs.wide.dot.Goals as goal

pub returns-clause-exact : goal.returns-clause-exact
returns-clause-exact c = grind (arith, to_z-of_z, dot-is)
