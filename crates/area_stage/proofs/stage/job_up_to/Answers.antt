use Rattle.std.proofs.Common.{◌≡◌, ◌∙◌, ℕ, List, arith, refl, ap, subst, length, map, Err}
use Rattle.std.specs.List.{All}
use Rattle.std.proofs.lemmas.Result.{err_from_is_err_and}
use Rattle.std.proofs.lemmas.List.Elements.{All-same}
use Rattle.slice_base.specs.declared.points.Pt.{Pt}
use Rattle.slice_base.proofs.Outcomes.{up_to-length}
use Rattle.std.proofs.lemmas.List.{length-map}
use Rattle.std.proofs.lemmas.List.FromFn.{length-map-range_with_len}
use Rattle.wall_skin.specs.declared.walling.WallSet.{WallSet}
use Rattle.area_stage.specs.Walls.{layer_walls_of}
use Rattle.area_stage.specs.Fills.{inners_of, all_inners_of}
use Rattle.area_stage.specs.Jobs.{loops_of}
use Rattle.area_stage.specs.Inner.Columns.{lengthened_by, no_columns}
use Rattle.area_stage.proofs.Inners.{columns-are, columns-long, walls-long}
use Rattle.area_stage.proofs.JobSteps.{job-walls_fault, job-skirt_fault, job-splits_fault, job-is, walls-as_many, splits-as_many}
use Rattle.area_stage.proofs.stage.job_up_to.Goals as goal

parted-are : (columns : List (List (List (List Pt)))) (sets : List (List WallSet)) (len m : ℕ) → columns ≡ lengthened_by (no_columns len) sets → len ≡ m → All (λ (s : List WallSet). length s ≡ m) sets → columns ≡ all_inners_of sets m
parted-are columns sets len m e el h = e ∙ (ap (λ (k : ℕ). lengthened_by (no_columns k) sets) el ∙ columns-are sets m h)

meshes-long : (sets : List (List WallSet)) (m n : ℕ) → m ≡ n → All (λ (s : List WallSet). length s ≡ m) sets → All (λ (s : List WallSet). length s ≡ n) sets
meshes-long sets m n e h = subst (λ (k : ℕ). All (λ (s : List WallSet). length s ≡ k) sets) e h

pub returns-in_err-walls : goal.returns-in_err-walls
returns-in_err-walls c =
    let p = err_from_is_err_and c.from_residual.result c.from_residual.ensures.1 in
    let e = p.1 ∙ ap Err p.2 in
    rw e (job-walls_fault c.args.settings c.args.meshes.now c.args.count c.in_err-walls.field-0.0 c.in_err-walls.ensures)

pub returns-in_err-skirt : goal.returns-in_err-skirt
returns-in_err-skirt c =
    let p = err_from_is_err_and c.from_residual-in_err-skirt.result c.from_residual-in_err-skirt.ensures.1 in
    let e = p.1 ∙ ap Err p.2 in
    let w = c.in_ok-walls.ensures in
    rw e (job-skirt_fault c.args.settings c.args.meshes.now c.args.count c.in_ok-walls.walls.sets c.in_ok-walls.walls.outlines c.in_err-skirt.field-0.0 w.sets (w.outlines c.requires.layered) c.in_err-skirt.ensures.answer)

pub all_parted-requires : goal.all_parted-requires
all_parted-requires c =
    meshes-long c.in_ok-walls.walls.sets (length c.args.meshes.now) (length c.args.meshes.now) refl (walls-as_many c.args.settings c.args.meshes.now c.args.count c.in_ok-walls.walls.sets c.in_ok-walls.ensures.sets)

pub job_splits-requires-clause-as_many : goal.job_splits-requires-clause-as_many
job_splits-requires-clause-as_many c =
    let sets = c.in_ok-walls.walls.sets in
    let m = length c.args.settings.meshes in
    let all = meshes-long sets (length c.args.meshes.now) m c.requires.as_many (walls-as_many c.args.settings c.args.meshes.now c.args.count sets c.in_ok-walls.ensures.sets) in
    let is = parted-are c.in_ok-parted.parted.columns sets (length c.args.meshes.now) m c.in_ok-parted.ensures.columns c.requires.as_many all in
    ap (λ (l : List (List (List (List Pt)))). length l) (c.items.ensures ∙ is) ∙ length-map-range_with_len (inners_of sets) 0 m

pub job_splits-requires-clause-long : goal.job_splits-requires-clause-long
job_splits-requires-clause-long c =
    let sets = c.in_ok-walls.walls.sets in
    let m = length c.args.settings.meshes in
    let all = meshes-long sets (length c.args.meshes.now) m c.requires.as_many (walls-as_many c.args.settings c.args.meshes.now c.args.count sets c.in_ok-walls.ensures.sets) in
    let is = parted-are c.in_ok-parted.parted.columns sets (length c.args.meshes.now) m c.in_ok-parted.ensures.columns c.requires.as_many all in
    let n : length c.in_ok-walls.walls.sets ≡ c.args.count = up_to-length (layer_walls_of c.args.settings c.args.meshes.now) c.args.count sets c.in_ok-walls.ensures.sets in
    let h = subst (λ (k : ℕ). All (λ (column : List (List (List Pt))). length column ≡ k) (all_inners_of c.in_ok-walls.walls.sets (length c.args.settings.meshes))) n (columns-long sets m) in
    All-same (λ (column : List (List (List Pt))). length column ≡ c.args.count) c.items.result.now (all_inners_of sets m) (c.items.ensures ∙ is) h

pub returns-in_err-splits : goal.returns-in_err-splits
returns-in_err-splits c =
    let p = err_from_is_err_and c.from_residual-in_err-splits.result c.from_residual-in_err-splits.ensures.1 in
    let e = p.1 ∙ ap Err p.2 in
    let w = c.in_ok-walls.ensures in
    let sets = c.in_ok-walls.walls.sets in
    let m = length c.args.settings.meshes in
    let all = meshes-long sets (length c.args.meshes.now) m c.requires.as_many (walls-as_many c.args.settings c.args.meshes.now c.args.count sets w.sets) in
    let is = parted-are c.in_ok-parted.parted.columns sets (length c.args.meshes.now) m c.in_ok-parted.ensures.columns c.requires.as_many all in
    rw e (job-splits_fault c.args.settings c.args.meshes.now c.args.count sets c.in_ok-walls.walls.outlines c.in_ok-skirt.skirt c.items.result.now c.in_err-splits.field-0.0 w.sets (w.outlines c.requires.layered) c.in_ok-skirt.ensures.answer (c.items.ensures ∙ is) c.in_err-splits.ensures)

pub joined_job-requires-clause-few : goal.joined_job-requires-clause-few
joined_job-requires-clause-few c =
    let sets = c.in_ok-walls.walls.sets in
    let n = up_to-length (layer_walls_of c.args.settings c.args.meshes.now) c.args.count sets c.in_ok-walls.ensures.sets in
    let e = ap (λ (l : List (List (List (List (List Pt))))). length l) c.in_ok-parted.ensures.walls in
    let t = length-map sets (map loops_of) in
    omega (arith, n, e, t, c.requires.few)

pub joined_job-requires-clause-walls_as_many : goal.joined_job-requires-clause-walls_as_many
joined_job-requires-clause-walls_as_many c =
    let sets = c.in_ok-walls.walls.sets in
    let m = length c.args.settings.meshes in
    let all = meshes-long sets (length c.args.meshes.now) m c.requires.as_many (walls-as_many c.args.settings c.args.meshes.now c.args.count sets c.in_ok-walls.ensures.sets) in
    All-same (λ (l : List (List (List (List Pt)))). length l ≡ length c.args.settings.meshes) c.in_ok-parted.parted.walls (map (map loops_of) sets) c.in_ok-parted.ensures.walls (walls-long sets m all)

pub joined_job-requires-clause-splits_as_many : goal.joined_job-requires-clause-splits_as_many
joined_job-requires-clause-splits_as_many c = splits-as_many c.args.settings c.items.result.now c.args.count c.in_ok-splits.splits c.in_ok-splits.ensures

pub returns : goal.returns
returns c =
    let w = c.in_ok-walls.ensures in
    let sets = c.in_ok-walls.walls.sets in
    let m = length c.args.settings.meshes in
    let all = meshes-long sets (length c.args.meshes.now) m c.requires.as_many (walls-as_many c.args.settings c.args.meshes.now c.args.count sets w.sets) in
    let is = parted-are c.in_ok-parted.parted.columns sets (length c.args.meshes.now) m c.in_ok-parted.ensures.columns c.requires.as_many all in
    job-is c.args.settings c.args.meshes.now c.args.count sets c.in_ok-walls.walls.outlines c.in_ok-skirt.skirt c.items.result.now c.in_ok-splits.splits c.in_ok-parted.parted.walls c.in_ok-walls.walls.open_outlines c.in_ok-joined_job.field-0
    w.sets (w.outlines c.requires.layered) c.in_ok-skirt.ensures.answer (c.items.ensures ∙ is) c.in_ok-splits.ensures c.in_ok-parted.ensures.walls w.open_outlines c.in_ok-joined_job.ensures
