use Rattle.std.proofs.Common.{◌≡◌, ◌<◌, ◌≤◌, ◌+◌, ◌-◌, ℕ, length, get_or}
use Rattle.path_order.specs.declared.starts.Start.{Start}
use Rattle.path_order.specs.Inner.Remaining.{no_start}
use Rattle.path_order.specs.Inner.Squares.{IsFound, Beats, strip_of}
use Rattle.path_order.proofs.grid.Grid.look_around.Given as goal

abbrev pub invariant-rows : goal.invariant-rows
invariant-rows l = record {
  from : l.centre - l.reach ≤ l.row;
  found : IsFound l.gone l.at l.self.starts.items l.found;
  seen : (k : ℕ) → k < length l.self.starts.items → l.centre - l.reach ≤ strip_of l.self.side (get_or l.self.starts.items k no_start).at.y → strip_of l.self.side (get_or l.self.starts.items k no_start).at.y < l.row → l.columns.from ≤ strip_of l.self.side (get_or l.self.starts.items k no_start).at.x → strip_of l.self.side (get_or l.self.starts.items k no_start).at.x ≤ l.columns.to → Beats l.gone l.at l.found (get_or l.self.starts.items k no_start);
}

abbrev pub decreases-rows : goal.decreases-rows
decreases-rows l = l.centre + l.reach + 1 - l.row
