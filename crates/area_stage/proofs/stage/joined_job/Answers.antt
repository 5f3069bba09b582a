use Rattle.std.proofs.Common.{◌≡◌, List, arith, ap, length}
use Rattle.std.proofs.lemmas.List.Elements.{All-same}
use Rattle.plan_types.specs.Areas.{MeshAreasValue}
use Rattle.area_stage.specs.Jobs.{all_areas_of}
use Rattle.area_stage.proofs.Inners.{all-areas-few, all-areas-long}
use Rattle.area_stage.proofs.stage.joined_job.Goals as goal

pub job-requires-clause-few : goal.job-requires-clause-few
job-requires-clause-few c =
    let e = ap (λ (l : List (List MeshAreasValue)). length l) c.in_ok-areas.ensures in
    omega (arith, e, all-areas-few c.args.walls c.args.splits, c.requires.few)

pub job-requires-clause-as_many : goal.job-requires-clause-as_many
job-requires-clause-as_many c =
    All-same (λ (a : List MeshAreasValue). length a ≡ length c.args.settings.meshes) c.in_ok-areas.areas (all_areas_of c.args.walls c.args.splits) c.in_ok-areas.ensures
    (all-areas-long c.args.walls c.args.splits (length c.args.settings.meshes) c.requires.walls_as_many c.requires.splits_as_many)
