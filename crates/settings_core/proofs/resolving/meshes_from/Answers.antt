use Rattle.std.proofs.Common.{◌<◌, get_or, arith}
use Rattle.settings_core.proofs.Ranges.{extruder_of-within}
use Rattle.settings_core.proofs.resolving.meshes_from.Goals as goal

pub overflow_cast-printed_by : goal.overflow_cast-printed_by
overflow_cast-printed_by c =
    let given : get_or c.args.given.now c.loop-number.number-index 0 < 8 = c.requires.below_eight c.loop-number.number-index 0 c.loop-number-test.true in
    omega (arith, extruder_of-within c.args.pairs.now c.loop-number.mesh (get_or c.args.given.now c.loop-number.number-index 0) given, c.extruder-printed_by.ensures)

pub mesh_settings_with-requires : goal.mesh_settings_with-requires
mesh_settings_with-requires c =
    let given : get_or c.args.given.now c.loop-number.number-index 0 < 8 = c.requires.below_eight c.loop-number.number-index 0 c.loop-number-test.true in
    omega (arith, extruder_of-within c.args.pairs.now c.loop-number.mesh (get_or c.args.given.now c.loop-number.number-index 0) given, c.extruder-printed_by.ensures)
