use Rattle.std.proofs.Common.{◌+◌, ◌<◌, arith, refl, length, bit_or}
use Rattle.area_stage.proofs.Bits.{or-below, below-more, wanted-step}
use Rattle.area_stage.specs.Extruders.{wanted_of}
use Rattle.area_stage.proofs.LayerSteps.{settings-at}
use Rattle.area_stage.proofs.wanting.wanted.Goals as goal

pub loop-i-preserved : goal.loop-i-preserved
loop-i-preserved c =
    let l = c.loop-i in
    let s = c.args.settings.now in
    let m = c.mesh_settings.result in
    let bits = c.wanted_bit-bits.result in
    let below : c.loop-i.i < length c.args.settings.now.meshes = omega (arith, c.loop-i-test.true, c.requires) in
    record {
      so_far = wanted-step l.bits (bit_or l.bits bits) bits l.i s.meshes c.args.areas.now m c.index-areas-i.result (wanted_of s c.args.areas.now) below c.loop-i-test.true (settings-at s l.i m below c.mesh_settings.ensures.is) c.index-areas-i.is
          c.wanted_bit-bits.ensures.is refl l.invariant.so_far;
      known = or-below (length s.extruders) l.bits bits l.invariant.known (below-more (m.extruder_nr + 1) (length s.extruders) bits (omega (arith, c.mesh_settings.ensures.known)) c.wanted_bit-bits.ensures.own);
    }
