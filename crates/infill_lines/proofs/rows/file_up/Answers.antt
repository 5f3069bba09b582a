use Rattle.std.proofs.Common.{sym, ◌∙◌}
use Rattle.infill_lines.proofs.Filing.{all_filed}
use Rattle.infill_lines.proofs.rows.file_up.Goals as goal

pub returns-clause-filed : goal.returns-clause-filed
returns-clause-filed c =
    all_filed c.args.rows.now c.each.rows c.args.lines c.args.low c.args.high c.each.k (sym c.is_below.ensures ∙ c.each-test.false) c.each.invariant.done c.each.invariant.rest
