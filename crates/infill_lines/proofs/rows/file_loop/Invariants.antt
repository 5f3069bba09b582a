use Rattle.std.proofs.Common.{◌≡◌, ◌<◌, ◌++◌, ℕ, length, drop}
use Rattle.infill_lines.specs.Crossings.{crossings_from, loop_crossings}
use Rattle.infill_lines.specs.Inner.Places.{IsPlace}
use Rattle.infill_lines.specs.Inner.Rows.{line_at, row_at}
use Rattle.infill_lines.proofs.rows.file_loop.Given as goal

abbrev pub invariant-loop-point : goal.invariant-loop-point
invariant-loop-point l = record {
  count : length l.rows ≡ l.lines.count;
  p_small : IsPlace 3400000 l.p;
  so_far : (k : ℕ) → k < l.lines.count → row_at l.rows k ++ crossings_from l.angle l.first l.p (drop l.point-index l.rest) (line_at l.lines k) ≡ row_at l.fn.rows k ++ loop_crossings l.angle l.fn.points (line_at l.lines k);
}
