use Rattle.std.proofs.Common.{◌∙◌, ◌<◌, arith, ap, Err}
use Rattle.std.proofs.lemmas.Result.{err_from_is_err_and}
use Rattle.slice_base.proofs.Outcomes.{up_to-none, up_to-ok}
use Rattle.settings_core.specs.Values.{SettingsValue}
use Rattle.area_stage.specs.Skirt.{line_of}
use Rattle.area_stage.proofs.Naming.{cut-up_to}
use Rattle.area_stage.proofs.skirts.each_line.Goals as goal

pub loop-k-init : goal.loop-k-init
loop-k-init c = rw c.new-lines.ensures (up_to-none (line_of c.args.settings.now c.args.region.now))

pub returns-in_err-line : goal.returns-in_err-line
returns-in_err-line c =
    let p = err_from_is_err_and c.from_residual.result c.from_residual.ensures.1 in
    let e = p.1 ∙ ap Err p.2 in
    let v = ap (λ (s : SettingsValue). s.skirt_line_count) c.settings.view_is in
    let below : c.loop-k.k < c.args.settings.now.skirt_line_count = omega (arith, c.loop-k-test.true, v) in
    rw e (cut-up_to (line_of c.args.settings.now c.args.region.now) c.loop-k.k c.args.settings.now.skirt_line_count c.loop-k.lines c.in_err-line.field-0.0 c.loop-k.invariant below c.in_err-line.ensures)

pub loop-k-preserved : goal.loop-k-preserved
loop-k-preserved c = up_to-ok (line_of c.args.settings.now c.args.region.now) c.loop-k.k c.loop-k.lines c.push.new.self c.in_ok-line.field-0 c.loop-k.invariant c.in_ok-line.ensures c.in_ok-push.ensures.ok
