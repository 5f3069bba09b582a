use Rattle.std.proofs.Common.{rules, sym, subst}
use Rattle.settings_core.specs.Valid.{IsMeshInRange}
use Rattle.settings_core.proofs.Ranges.{mesh_settings_with-in_range}
use Rattle.settings_core.proofs.resolving.mesh_settings_with.Goals as goal

pub invariant_of-result : goal.invariant_of-result
invariant_of-result c = subst IsMeshInRange (sym (search rules)) (mesh_settings_with-in_range c.args.pairs.now c.args.mesh c.args.extruder c.requires)
