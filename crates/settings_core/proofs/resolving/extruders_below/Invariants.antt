use Rattle.std.proofs.Common.{◌≡◌}
use Rattle.settings_core.specs.Resolve.{extruders_below}
use Rattle.settings_core.proofs.resolving.extruders_below.Given as goal

abbrev pub invariant-loop-extruder : goal.invariant-loop-extruder
invariant-loop-extruder l = l.extruders ≡ extruders_below l.pairs l.extruder
