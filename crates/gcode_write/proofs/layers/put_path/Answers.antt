use Rattle.std.proofs.Common.{◌≤◌, ◌+◌, ◌*◌, ◌≡◌, subst, arith}
use Rattle.settings_core.specs.Values.{ExtruderSettingsValue}
use Rattle.plan_types.specs.Plans.{volume_of}
use Rattle.gcode_write.specs.Filament.{path_volume_of}
use Rattle.gcode_write.proofs.Sizes.{path_volume_small}
use Rattle.gcode_write.proofs.layers.put_path.Goals as goal

pub put_print-volume-requires : goal.put_print-volume-requires
put_print-volume-requires g c =
    let flow = subst (λ (v : ExtruderSettingsValue). v.material_flow ≤ 500) c.x.view_is c.x.invariant.material_flow.1 in
    omega (arith, c.requires.volume, c.volume_before-volume.ensures.small, path_volume_small c.extruder-x.result c.args.path.now flow)

pub returns-clause-volume : goal.returns-clause-volume
returns-clause-volume g c =
    let flow = subst (λ (v : ExtruderSettingsValue). v.material_flow ≤ 500) c.x.view_is c.x.invariant.material_flow.1 in
    omega (arith, c.put_print-volume.ensures.volume, c.volume_before-volume.ensures.small, path_volume_small c.extruder-x.result c.args.path.now flow)
