use Rattle.std.proofs.Common.{rules, ◌≡◌, ◌++◌, [], ◌∷◌, length}
use Rattle.gcode_write.proofs.Plates.{plain_layer, plain_job}
use Rattle.gcode_write.proofs.tests.job.Goals as goal

pub invariant_of-result : goal.invariant_of-result
invariant_of-result c =
    let s = c.in_ok-settings.settings in
    let l = c.in_ok-layer_areas.field-0 in
    let m = c.in_ok-layer_areas-2.field-0 in
    let meshes : length s.meshes ≡ 1 = search rules in
    let extruders : length s.extruders ≡ c.args.extruders = search rules in
    plain_job s l m c.new-layers.result c.push.new.self c.push-2.new.self c.new-2.result c.first_bits.result c.args.extruders
    (plain_layer s l c.in_ok-layer_areas.ensures.meshes c.in_ok-layer_areas.ensures.order c.in_ok-layer_areas.ensures.thin meshes)
    (plain_layer s m c.in_ok-layer_areas-2.ensures.meshes c.in_ok-layer_areas-2.ensures.order c.in_ok-layer_areas-2.ensures.thin meshes)
    c.new-layers.ensures c.in_ok-push.ensures.ok c.in_ok-push-2.ensures.ok c.new-2.ensures meshes extruders c.requires.some c.first_bits.ensures
