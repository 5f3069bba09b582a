use Rattle.std.proofs.Common.{◌*◌, ◌+◌, ◌<◌, ◌^◌, ◌%◌, arith, ap}
use Rattle.settings_core.specs.Values.{MeshSettingsValue}
use Rattle.area_stage.proofs.Bits.{power-below, below-same}
use Rattle.area_stage.proofs.LayerSteps.{power-small}
use Rattle.area_stage.proofs.wanting.wanted_bit.Goals as goal

pub returns-then-is_printed-clause-own : goal.returns-then-is_printed-clause-own
returns-then-is_printed-clause-own c = λ e h.
    let k = c.m.inside.extruder_nr in
    let t : e < c.m.inside.extruder_nr + 1 = below-same (k + 1) (1 * 2 ^ k % 256) (2 ^ k) (power-small k c.m.invariant.extruder_nr) (power-below k) e h in
    let v = ap (λ (m : MeshSettingsValue). m.extruder_nr) c.m.view_is in
    omega (arith, t, v)
