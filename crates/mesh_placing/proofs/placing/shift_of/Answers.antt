use Rattle.std.proofs.Common.{FitsSigned, w32, w64, rules, ◌∙◌, ap}
use Rattle.settings_core.specs.contracts.resolved.MeshSettings.{the_view}
use Rattle.mesh_placing.specs.Places.{positioned}
use Rattle.mesh_placing.proofs.Corners.{shift-is, sum-is}
use Rattle.mesh_placing.proofs.placing.shift_of.Goals as goal

pub returns-clause-exact : goal.returns-clause-exact
returns-clause-exact c =
    let bx : FitsSigned w64 c.centred-by.result.x = search rules in
    let by : FitsSigned w64 c.centred-by.result.y = search rules in
    let bz : FitsSigned w64 c.centred-by.result.z = search rules in
    let px : FitsSigned w32 c.mesh.inside.mesh_position_x = search rules in
    let py : FitsSigned w32 c.mesh.inside.mesh_position_y = search rules in
    let pz : FitsSigned w32 c.mesh.inside.mesh_position_z = search rules in
    let fx : FitsSigned w64 c.from.result = search rules in
    let fy : FitsSigned w64 c.from-2.result = search rules in
    let fz : FitsSigned w64 c.from-3.result = search rules in
    let short = c.centred-by.ensures.short in
    shift-is (positioned (the_view c.mesh.inside) c.centred-by.result) _ _ _
    (sum-is c.centred-by.result.x c.from.result c.mesh.inside.mesh_position_x short.in_x bx px fx c.from.ensures)
    (sum-is c.centred-by.result.y c.from-2.result c.mesh.inside.mesh_position_y short.in_y by py fy c.from-2.ensures)
    (sum-is c.centred-by.result.z c.from-3.result c.mesh.inside.mesh_position_z short.in_z bz pz fz c.from-3.ensures)
    ∙ ap (λ m. positioned m c.centred-by.result) c.mesh.view_is
    ∙ ap (positioned c.args.mesh.now) c.centred-by.ensures.exact
