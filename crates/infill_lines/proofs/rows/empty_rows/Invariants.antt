use Rattle.std.proofs.Common.{◌≡◌, ℕ, [], length}
use Rattle.infill_lines.specs.Inner.Rows.{row_at}
use Rattle.infill_lines.proofs.rows.empty_rows.Given as goal

abbrev pub invariant-loop : goal.invariant-loop
invariant-loop l = record {
  count : length l.rows.items ≡ l.counter;
  empty : (k : ℕ) → row_at l.rows.items k ≡ [];
}
