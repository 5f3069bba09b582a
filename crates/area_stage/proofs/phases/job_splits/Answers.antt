use Rattle.std.proofs.Common.{◌≡◌, ◌∙◌, ◌<◌, List, arith, ap, length, Err}
use Rattle.std.proofs.lemmas.Result.{err_from_is_err_and}
use Rattle.std.proofs.lemmas.List.Elements.{All-weaker}
use Rattle.slice_base.specs.declared.points.Pt.{Pt}
use Rattle.slice_base.proofs.Outcomes.{up_to-none, up_to-ok}
use Rattle.area_stage.specs.Fills.{layer_splits_of}
use Rattle.area_stage.proofs.Naming.{area-up_to}
use Rattle.area_stage.proofs.phases.job_splits.Goals as goal

pub loop-k-init : goal.loop-k-init
loop-k-init c = rw c.new-splits.ensures (up_to-none (layer_splits_of c.args.settings.now c.args.columns.now))

pub layer_splits-requires-clause-below : goal.layer_splits-requires-clause-below
layer_splits-requires-clause-below c =
    All-weaker (λ (column : List (List (List Pt))). length column ≡ c.args.count) (λ (column : List (List (List Pt))). c.loop-k.k < length column) (λ column e. omega (arith, e, c.loop-k-test.true)) c.args.columns.now c.requires.long

pub returns-in_err-layer_splits : goal.returns-in_err-layer_splits
returns-in_err-layer_splits c =
    let p = err_from_is_err_and c.from_residual.result c.from_residual.ensures.1 in
    let e = p.1 ∙ ap Err p.2 in
    rw e (area-up_to (layer_splits_of c.args.settings.now c.args.columns.now) c.loop-k.k c.args.count c.loop-k.splits c.in_err-layer_splits.field-0.0 c.loop-k.invariant c.loop-k-test.true c.in_err-layer_splits.ensures)

pub loop-k-preserved : goal.loop-k-preserved
loop-k-preserved c = up_to-ok (layer_splits_of c.args.settings.now c.args.columns.now) c.loop-k.k c.loop-k.splits c.push.new.self c.in_ok-layer_splits.field-0 c.loop-k.invariant c.in_ok-layer_splits.ensures c.in_ok-push.ensures.ok
