use Rattle.std.proofs.Common.{◌∙◌, sym, get_or}
use Rattle.std.proofs.lemmas.List.{get_or_default}
use Rattle.plan_types.specs.Extruders.{has_bit}
use Rattle.plan_types.specs.Orders.{all_extruders}
use Rattle.area_stage.specs.Extruders.{least_of}
use Rattle.area_stage.proofs.Bits.{least-later}
use Rattle.area_stage.proofs.wanting.least.Goals as goal

pub loop-e-preserved : goal.loop-e-preserved
loop-e-preserved c =
    let e = get_or all_extruders c.loop-e.e-index 0 in
    let at = get_or_default all_extruders c.loop-e.e-index 0 e c.loop-e-test.true in
    least-later (has_bit c.args.bits) all_extruders c.loop-e.e-index e (least_of c.args.bits) c.loop-e-test.true at (sym c.has_bit.ensures ∙ c.if-has_bit.false) c.loop-e.invariant
