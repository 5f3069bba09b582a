use Rattle.std.proofs.Common.{◌≡◌, ◌∙◌, ℕ, arith, ap, subst, Ok, Err}
use Rattle.std.proofs.lemmas.Result.{err_from_is_err_and}
use Rattle.slice_base.specs.Outcomes.{up_to}
use Rattle.slice_base.proofs.Outcomes.{up_to-none}
use Rattle.area_stage.specs.Fills.{layer_splits_of}
use Rattle.area_stage.proofs.phases.job_splits_wide.Goals as goal

pub runs-init : goal.runs-init
runs-init g c = record { few = omega arith; so_far = rw c.new-splits.ensures (up_to-none (layer_splits_of c.args.settings.now c.args.columns.now)) }

pub returns-in_err-splits : goal.returns-in_err-splits
returns-in_err-splits g c =
    let p = err_from_is_err_and c.from_residual.result c.from_residual.ensures.1 in
    let e = p.1 ∙ ap Err p.2 in
    rw e (c.in_err-splits.ensures.fault c.args.count (omega (arith, c.runs.invariant.few, c.next_few-few.ensures.most)))

pub returns : goal.returns
returns g c =
    let all : c.runs.from ≡ c.args.count = omega (arith, c.runs.invariant.few, c.runs-test.false) in
    subst (λ (j : ℕ). up_to (layer_splits_of c.args.settings.now c.args.columns.now) j ≡ Ok c.runs.splits) all c.runs.invariant.so_far
