use Rattle.std.proofs.Common.{◌≡◌, ◌∙◌, List, arith, sym, ap, subst, length, Result, Err}
use Rattle.std.proofs.lemmas.Result.{err_from_is_err_and}
use Rattle.slice_base.proofs.Outcomes.{up_to-none, up_to-ok}
use Rattle.wall_skin.specs.declared.skins.Split.{Split}
use Rattle.area_stage.specs.Faults.{Tangle}
use Rattle.area_stage.specs.Inner.Faults.{IsAreaFault}
use Rattle.area_stage.specs.Fills.{mesh_split_of}
use Rattle.area_stage.proofs.Naming.{area-up_to}
use Rattle.area_stage.proofs.LayerSteps.{splits-are, split-at}
use Rattle.area_stage.proofs.fills.layer_splits.Goals as goal

pub loop-i-init : goal.loop-i-init
loop-i-init c = rw c.new-splits.ensures (up_to-none (mesh_split_of c.args.settings.now c.args.columns.now c.args.layer))

pub overflow_cast-i : goal.overflow_cast-i
overflow_cast-i c = omega (arith, c.loop-i-test.true, c.requires.as_many, c.mesh_settings-m.ensures.few)

pub returns-in_err-named_split : goal.returns-in_err-named_split
returns-in_err-named_split c =
    let p = err_from_is_err_and c.from_residual.result c.from_residual.ensures.1 in
    let e = p.1 ∙ ap Err p.2 in
    let l = c.loop-i in
    let s = c.args.settings.now in
    let columns = c.args.columns.now in
    let fault = c.in_err-named_split.field-0.0 in
    let at = split-at s columns c.args.layer l.i c.mesh_settings-m.result c.index-columns-i.result c.loop-i-test.true c.index-columns-i.is c.mesh_settings-m.ensures.is in
    let h = subst (λ (r : Result Split Tangle). IsAreaFault r c.in_err-named_split.field-0.0) at c.in_err-named_split.ensures in
    let t = area-up_to (mesh_split_of s columns c.args.layer) l.i (length columns) l.splits fault l.invariant c.loop-i-test.true h in
    rw e (subst (λ (r : Result (List Split) Tangle). IsAreaFault r c.in_err-named_split.field-0.0) (splits-are s columns c.args.layer (length columns) c.requires.as_many) t)

pub loop-i-preserved : goal.loop-i-preserved
loop-i-preserved c =
    let l = c.loop-i in
    let s = c.args.settings.now in
    let columns = c.args.columns.now in
    let at = split-at s columns c.args.layer l.i c.mesh_settings-m.result c.index-columns-i.result c.loop-i-test.true c.index-columns-i.is c.mesh_settings-m.ensures.is in
    up_to-ok (mesh_split_of s columns c.args.layer) l.i l.splits c.push.new.self c.in_ok-named_split.field-0 l.invariant (sym at ∙ c.in_ok-named_split.ensures) c.in_ok-push.ensures.ok

pub returns : goal.returns
returns c =
    let s = c.args.settings.now in
    let columns = c.args.columns.now in
    let end : c.loop-i.i ≡ length c.args.columns.now = omega (arith, c.loop-i-test.false, c.loop-i.auto.i-end) in
    sym (splits-are s columns c.args.layer c.loop-i.i (end ∙ c.requires.as_many)) ∙ c.loop-i.invariant
