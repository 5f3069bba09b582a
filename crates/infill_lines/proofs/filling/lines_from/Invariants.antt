use Rattle.std.proofs.Common.{◌≡◌, ◌-◌, ◌++◌}
use Rattle.infill_lines.specs.Fill.{lines_from}
use Rattle.infill_lines.proofs.filling.lines_from.Given as goal

abbrev pub invariant-loop-k : goal.invariant-loop-k
invariant-loop-k l = l.edges.items ++ lines_from (l.fn.lines.count - l.k) l.angle l.region l.fn.lines.step l.fn.lines.first l.k ≡ lines_from l.fn.lines.count l.angle l.region l.fn.lines.step l.fn.lines.first 0
