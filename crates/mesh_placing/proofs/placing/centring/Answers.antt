use Rattle.std.proofs.Common.{FitsSigned, w32, w64, rules, ◌∙◌, ap}
use Rattle.settings_core.specs.contracts.resolved.Settings.{the_view}
use Rattle.std.proofs.lemmas.Int.{to_z-of_z}
use Rattle.mesh_placing.specs.Places.{centring}
use Rattle.mesh_placing.proofs.Corners.{neg-is, shift-is}
use Rattle.mesh_placing.proofs.placing.centring.Goals as goal

pub returns-clause-exact : goal.returns-clause-exact
returns-clause-exact c =
    let lx : FitsSigned w32 c.args.extent.low.x = search rules in
    let hx : FitsSigned w32 c.args.extent.high.x = search rules in
    let ly : FitsSigned w32 c.args.extent.low.y = search rules in
    let hy : FitsSigned w32 c.args.extent.high.y = search rules in
    let lz : FitsSigned w32 c.args.extent.low.z = search rules in
    let fx : FitsSigned w64 c.to_middle.result = search rules in
    let fy : FitsSigned w64 c.to_middle-2.result = search rules in
    let fz : FitsSigned w64 c.from.result = search rules in
    let ex = simp to_z-of_z at c.to_middle.ensures.exact in
    let ey = simp to_z-of_z at c.to_middle-2.ensures.exact in
    shift-is (centring (the_view c.settings.inside) c.args.extent) _ _ _
    (to_z-of_z w64 c.to_middle.result fx ∙ ex)
    (to_z-of_z w64 c.to_middle-2.result fy ∙ ey)
    (neg-is c.from.result c.args.extent.low.z lz fz c.from.ensures)
    ∙ ap (λ s. centring s c.args.extent) c.settings.view_is
