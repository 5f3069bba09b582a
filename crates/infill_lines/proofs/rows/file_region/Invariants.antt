use Rattle.std.proofs.Common.{◌≡◌, ◌<◌, ◌++◌, ℕ, length, drop}
use Rattle.infill_lines.specs.Crossings.{region_crossings}
use Rattle.infill_lines.specs.Inner.Rows.{line_at, row_at}
use Rattle.infill_lines.proofs.rows.file_region.Given as goal

abbrev pub invariant-loop-l : goal.invariant-loop-l
invariant-loop-l l = record {
  count : length l.rows ≡ l.lines.count;
  so_far : (k : ℕ) → k < l.lines.count → row_at l.rows k ++ region_crossings l.angle (drop l.l-index l.l-items) (line_at l.lines k) ≡ row_at l.fn.rows k ++ region_crossings l.angle l.region (line_at l.lines k);
}
