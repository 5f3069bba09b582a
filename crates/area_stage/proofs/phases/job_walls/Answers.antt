use Rattle.std.proofs.Common.{◌∙◌, arith, ap, Err}
use Rattle.std.proofs.lemmas.Result.{err_from_is_err_and}
use Rattle.area_stage.specs.Walls.{layer_walls_of}
use Rattle.area_stage.proofs.Naming.{area-up_to}
use Rattle.area_stage.proofs.phases.job_walls.Goals as goal

pub loop-k-init : goal.loop-k-init
loop-k-init c = c.no_walls-walls.ensures c.args.settings.now c.args.meshes.now

pub with_layer-requires-clause-few : goal.with_layer-requires-clause-few
with_layer-requires-clause-few c = omega (arith, c.loop-k.invariant.few, c.loop-k-test.true, c.requires.few)

pub returns-in_err-layer_walls : goal.returns-in_err-layer_walls
returns-in_err-layer_walls c =
    let p = err_from_is_err_and c.from_residual.result c.from_residual.ensures.1 in
    let e = p.1 ∙ ap Err p.2 in
    rw e (area-up_to (layer_walls_of c.args.settings.now c.args.meshes.now) c.loop-k.k c.args.count c.loop-k.walls.sets c.in_err-layer_walls.field-0.0 c.loop-k.invariant.sets c.loop-k-test.true c.in_err-layer_walls.ensures)

pub loop-k-preserved : goal.loop-k-preserved
loop-k-preserved c = c.in_ok-walls.ensures c.args.settings.now c.args.meshes.now c.loop-k.k c.loop-k.invariant c.in_ok-layer_walls.ensures
