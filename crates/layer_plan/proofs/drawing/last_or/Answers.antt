use Rattle.std.proofs.Common.{length, ◌≤◌, arith}
use Rattle.layer_plan.proofs.Drawings.{last_or-last}
use Rattle.layer_plan.proofs.drawing.last_or.Goals as goal

pub returns-in-len1-up : goal.returns-in-len1-up
returns-in-len1-up c = last_or-last c.args.at c.args.points.now _ (omega arith)
