use Rattle.std.proofs.Common.{◌≡◌, ◌<◌, ◌≤◌, ◌-◌, ◌++◌, ◌≤ℤ◌, ℕ, length}
use Rattle.infill_lines.specs.Crossings.{crosses_up}
use Rattle.infill_lines.specs.Inner.Rows.{line_at, row_at}
use Rattle.infill_lines.proofs.rows.file_up.Given as goal

abbrev pub invariant-each : goal.invariant-each
invariant-each l = record {
  count : length l.rows ≡ l.lines.count;
  behind : (j : ℕ) → l.k ≤ j → l.low.across ≤ℤ line_at l.lines j;
  done : (j : ℕ) → j < l.lines.count → j < l.k → row_at l.rows j ≡ row_at l.fn.rows j ++ crosses_up l.low l.high (line_at l.lines j);
  rest : (j : ℕ) → l.k ≤ j → row_at l.rows j ≡ row_at l.fn.rows j;
}

abbrev pub decreases-each : goal.decreases-each
decreases-each l = l.lines.count - l.k
