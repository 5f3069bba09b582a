use Rattle.std.proofs.Common.{◌∙◌, ap, Err}
use Rattle.std.proofs.lemmas.Result.{err_from_is_err_and}
use Rattle.area_stage.proofs.JobSteps.{gives-job, gives-no_job, result-or, no_layers-are, too_many-are, fits-some, fits-few}
use Rattle.area_stage.proofs.stage.areas_wide.Goals as goal

pub returns-in_err-count-clause-one : goal.returns-in_err-count-clause-one
returns-in_err-count-clause-one g c =
    let p = err_from_is_err_and c.from_residual.result c.from_residual.ensures.1 in
    let e = p.1 ∙ ap Err p.2 in
    result-or c.args.settings c.args.meshes.now c.from_residual.result (c.one_areas.ensures c.args.settings c.args.meshes.now) (gives-no_job c.args.settings c.args.meshes.now c.from_residual.result c.in_err-count.field-0.0 e c.in_err-count.ensures.refused)

pub returns-clause-one : goal.returns-clause-one
returns-clause-one g c =
    result-or c.args.settings c.args.meshes.now c.job_up_to_wide.result (c.one_areas.ensures c.args.settings c.args.meshes.now) (gives-job c.args.settings c.args.meshes.now c.in_ok-count.count c.job_up_to_wide.result c.in_ok-count.ensures.fits c.job_up_to_wide.ensures)

pub returns-in_err-count-clause-none : goal.returns-in_err-count-clause-none
returns-in_err-count-clause-none g c =
    let p = err_from_is_err_and c.from_residual.result c.from_residual.ensures.1 in
    let e = p.1 ∙ ap Err p.2 in
    no_layers-are c.args.settings c.args.meshes.now c.from_residual.result c.in_err-count.field-0.0 c.one_layer_count.ensures e c.in_err-count.ensures.refused

pub returns-in_err-count-clause-too_many : goal.returns-in_err-count-clause-too_many
returns-in_err-count-clause-too_many g c =
    let p = err_from_is_err_and c.from_residual.result c.from_residual.ensures.1 in
    let e = p.1 ∙ ap Err p.2 in
    too_many-are c.args.settings c.args.meshes.now c.from_residual.result c.in_err-count.field-0.0 c.one_layer_count.ensures e c.in_err-count.ensures.refused

pub returns-clause-none : goal.returns-clause-none
returns-clause-none g c = fits-some c.args.settings c.args.meshes.now c.in_ok-count.count c.job_up_to_wide.result c.one_layer_count.ensures c.in_ok-count.ensures.fits

pub returns-clause-too_many : goal.returns-clause-too_many
returns-clause-too_many g c = fits-few c.args.settings c.args.meshes.now c.in_ok-count.count c.job_up_to_wide.result c.one_layer_count.ensures c.in_ok-count.ensures.fits
