use Rattle.std.proofs.Common.{ℕ, ◌<◌, arith, length}
use Rattle.std.proofs.lemmas.Int.{ints}
use Rattle.std.proofs.lemmas.List.Elements.{All-same}
use Rattle.area_stage.proofs.LayerSteps.{order-known}
use Rattle.area_stage.proofs.layers.layer.Goals as goal

pub returns-clause-sound : goal.returns-clause-sound
returns-clause-sound c =
    let order = c.extruder_order.ensures in
    record {
      meshes_are = c.requires.as_many;
      known = All-same (λ (e : ℕ). e < length c.args.settings.now.extruders) c.extruder_order.result _ order (order-known (length c.args.settings.now.extruders) c.args.last c.wanted-wanted.result c.wanted-wanted.ensures.known);
      once = λ e. rw order (c.orders_have_each_once.ensures c.args.last c.wanted-wanted.result e);
      thin = omega (arith, ints, c.thickness.ensures.thickness, c.thickness.ensures.within);
    }
