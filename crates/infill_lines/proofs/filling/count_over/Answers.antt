use Rattle.infill_lines.proofs.Counting.{count-le}
use Rattle.infill_lines.proofs.filling.count_over.Goals as goal

pub returns-clause-small : goal.returns-clause-small
returns-clause-small c = count-le c.args.span c.args.step c.requires.span_to c.requires.step_to
