use Rattle.std.proofs.Common.{◌≡◌, ◌∙◌, ℕ, arith, ap, subst, Err}
use Rattle.std.proofs.lemmas.Result.{err_from_is_err_and}
use Rattle.area_stage.specs.Inner.Walls.{AreJobWalls}
use Rattle.area_stage.proofs.phases.job_walls_wide.Goals as goal

pub runs-init : goal.runs-init
runs-init g c = record { few = omega arith; so_far = c.no_walls-walls.ensures c.args.settings.now c.args.meshes.now }

pub returns-in_err-walls : goal.returns-in_err-walls
returns-in_err-walls g c =
    let p = err_from_is_err_and c.from_residual.result c.from_residual.ensures.1 in
    let e = p.1 ∙ ap Err p.2 in
    rw e (c.in_err-walls.ensures.fault c.args.count (omega (arith, c.runs.invariant.few, c.next_few-few.ensures.most)))

pub returns : goal.returns
returns g c =
    let all : c.runs.from ≡ c.args.count = omega (arith, c.runs.invariant.few, c.runs-test.false) in
    subst (λ (j : ℕ). AreJobWalls c.args.settings.now c.args.meshes.now j c.runs.walls) all c.runs.invariant.so_far
