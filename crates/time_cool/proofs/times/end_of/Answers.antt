use Rattle.std.proofs.Common.{length, ◌≤◌, arith}
use Rattle.time_cool.proofs.Ends.{end_of-last}
use Rattle.time_cool.proofs.times.end_of.Goals as goal

pub returns-in-len1-up-clause-exact : goal.returns-in-len1-up-clause-exact
returns-in-len1-up-clause-exact c = end_of-last c.args.from c.args.points.now _ (omega arith)
