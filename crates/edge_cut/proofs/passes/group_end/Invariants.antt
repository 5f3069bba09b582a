use Rattle.std.proofs.Common.{◌≡◌, ◌<◌, ◌≤◌, ◌-◌, ℕ, length, get_or}
use Rattle.edge_cut.specs.declared.meetings.Meeting.{Meeting}
use Rattle.edge_cut.proofs.passes.group_end.Given as goal

abbrev pub invariant-group : goal.invariant-group
invariant-group l = record {
  later : l.from ≤ l.end;
  within : l.end ≤ length l.meetings;
  same : (j : ℕ) (d : Meeting) → l.from ≤ j → j < l.end → (get_or l.meetings j d).index ≡ l.index;
}

abbrev pub decreases-group : goal.decreases-group
decreases-group l = length l.meetings - l.end
