use Rattle.std.proofs.Common.{◌≡◌, ◌≤◌, ◌-◌, ◌++◌, length, drop}
use Rattle.infill_lines.specs.Fill.{paired}
use Rattle.infill_lines.proofs.pairs.push_pairs.Given as goal

abbrev pub invariant-pairs : goal.invariant-pairs
invariant-pairs l = record {
  within : l.i ≤ length l.places;
  so_far : l.edges.items ++ paired l.angle (drop l.i l.places) ≡ l.fn.edges.items ++ paired l.angle l.places;
}

abbrev pub decreases-pairs : goal.decreases-pairs
decreases-pairs l = length l.places - l.i
