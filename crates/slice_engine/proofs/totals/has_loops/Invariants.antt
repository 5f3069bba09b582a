use Rattle.std.proofs.Common.{◌≡◌, drop}
use Rattle.slice_engine.specs.Totals.{has_loops}
use Rattle.slice_engine.proofs.totals.has_loops.Given as goal

abbrev pub invariant-loop-region : goal.invariant-loop-region
invariant-loop-region l = has_loops (drop l.region-index l.regions) ≡ has_loops l.regions
