use Rattle.std.proofs.Common.{◌≡◌, ◌<◌, ◌≤◌, ◌+◌, ◌-◌, ℕ, length, get_or}
use Rattle.path_order.specs.declared.starts.Start.{Start}
use Rattle.path_order.specs.Inner.Remaining.{no_start}
use Rattle.path_order.specs.Inner.Squares.{IsFound, Beats, strip_of}
use Rattle.path_order.proofs.grid.Grid.look_in_row.Given as goal

abbrev pub invariant-columns : goal.invariant-columns
invariant-columns l = record {
  from : l.columns.from ≤ l.column;
  found : IsFound l.gone l.at l.self.starts.items l.found;
  kept : (s : Start) → Beats l.gone l.at l.fn.best s → Beats l.gone l.at l.found s;
  seen : (k : ℕ) → k < length l.self.starts.items → strip_of l.self.side (get_or l.self.starts.items k no_start).at.y ≡ l.row → l.columns.from ≤ strip_of l.self.side (get_or l.self.starts.items k no_start).at.x → strip_of l.self.side (get_or l.self.starts.items k no_start).at.x < l.column → Beats l.gone l.at l.found (get_or l.self.starts.items k no_start);
}

abbrev pub decreases-columns : goal.decreases-columns
decreases-columns l = l.columns.to + 1 - l.column
