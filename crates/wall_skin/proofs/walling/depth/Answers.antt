use Rattle.std.proofs.Common.{◌*◌, ◌≤◌, arith}
use Rattle.std.proofs.Math.Nat.{mul-le-mul}
use Rattle.wall_skin.proofs.walling.depth.Goals as goal

pub overflow_mul-result : goal.overflow_mul-result
overflow_mul-result c = let t : c.args.count * c.args.width ≤ 20 * 2000 = mul-le-mul c.requires.few c.requires.width_to in omega (arith, t)

pub returns-clause-small : goal.returns-clause-small
returns-clause-small c = let t : c.args.count * c.args.width ≤ 20 * 2000 = mul-le-mul c.requires.few c.requires.width_to in omega (arith, t)
