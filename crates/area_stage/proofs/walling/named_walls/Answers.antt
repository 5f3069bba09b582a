use Rattle.std.proofs.Common.{◌≡◌, Ok}
use Rattle.area_stage.specs.declared.walling.MeshWalls.{MeshWalls}
use Rattle.area_stage.specs.Outlines.{cleaned_of, open_at}
use Rattle.area_stage.specs.Walls.{walls_at}
use Rattle.area_stage.proofs.Naming.{named-answer, named-holds}
use Rattle.area_stage.proofs.walling.named_walls.Goals as goal

pub returns-clause-answer : goal.returns-clause-answer
returns-clause-answer c = λ before h.
    named-answer c.args.i c.args.layer c.mesh_walls.result c.named_result.result (walls_at c.args.at.z before c.args.mesh.now c.args.m) (λ (w : MeshWalls). w.set) c.named_result.ensures (c.mesh_walls.ensures.answer before h)

pub returns-clause-own : goal.returns-clause-own
returns-clause-own c = named-holds c.args.i c.args.layer c.mesh_walls.result c.named_result.result (λ (w : MeshWalls). cleaned_of c.args.at.z c.args.mesh.now ≡ Ok w.outline) c.named_result.ensures c.mesh_walls.ensures.own

pub returns-clause-open_outlines : goal.returns-clause-open_outlines
returns-clause-open_outlines c = named-holds c.args.i c.args.layer c.mesh_walls.result c.named_result.result (λ (w : MeshWalls). w.open_outlines ≡ open_at c.args.at.z c.args.mesh.now) c.named_result.ensures c.mesh_walls.ensures.open_outlines
