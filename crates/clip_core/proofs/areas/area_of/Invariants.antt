use Rattle.std.proofs.Common.{◌≡◌, ◌≤◌, ◌*◌, ◌^◌, ◌+ℤ◌, drop, unsigned_abs, false}
use Rattle.clip_core.specs.Outlines.{edges_from}
use Rattle.clip_core.specs.Areas.{sum_of_wedges, area_of}
use Rattle.clip_core.proofs.areas.area_of.Given as goal

abbrev pub invariant-loop-q : goal.invariant-loop-q
invariant-loop-q l = record {
  small : unsigned_abs l.sum.twice ≤ l.q-index * 2 ^ 63;
  so_far : l.sum.twice +ℤ sum_of_wedges (edges_from false l.first l.p (drop l.q-index l.q-items)) ≡ area_of l.points;
}
