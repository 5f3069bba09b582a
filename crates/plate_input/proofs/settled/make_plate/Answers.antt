use Rattle.std.proofs.Common.{◌≡◌, Err, ap, ◌∙◌}
use Rattle.std.proofs.lemmas.Result.{err_from_is_err_and}
use Rattle.plate_input.proofs.Stages.{by_setting, by_mesh, by_plate}
use Rattle.plate_input.proofs.settled.make_plate.Goals as goal

pub returns-in_err-settings : goal.returns-in_err-settings
returns-in_err-settings c =
    let p = err_from_is_err_and c.from_residual.result c.from_residual.ensures.1 in
    let e : c.from_residual.result ≡ Err c.in_err-settings.field-0.0 = p.1 ∙ ap Err p.2 in
    rw e (record { gives = by_setting c.args.pairs.now c.args.extruders.now c.args.files c.in_err-settings.field-0.0 c.in_err-settings.ensures.refused })

pub returns-in_err-meshes : goal.returns-in_err-meshes
returns-in_err-meshes c =
    let p = err_from_is_err_and c.from_residual-in_err-meshes.result c.from_residual-in_err-meshes.ensures.1 in
    let e : c.from_residual-in_err-meshes.result ≡ Err c.in_err-meshes.field-0.0 = p.1 ∙ ap Err p.2 in
    rw e (record { gives = by_mesh c.args.pairs.now c.args.extruders.now c.args.files c.in_ok-settings.settings c.in_err-meshes.field-0.0 c.in_ok-settings.ensures.faultless c.in_ok-settings.ensures.settings c.in_err-meshes.ensures.gives })

pub returns : goal.returns
returns c =
    record { gives = by_plate c.args.pairs.now c.args.extruders.now c.args.files c.in_ok-settings.settings c.in_ok-meshes.meshes c.in_ok-settings.ensures.faultless c.in_ok-settings.ensures.settings c.in_ok-meshes.ensures.gives }
