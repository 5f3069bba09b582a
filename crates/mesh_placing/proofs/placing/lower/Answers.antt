use Rattle.std.proofs.Common.{FitsSigned, w32, rules}
use Rattle.std.proofs.lemmas.Int.{to_z-of_z}
use Rattle.mesh_placing.specs.Extents.{lower}
use Rattle.mesh_placing.proofs.Corners.{corner-is}
use Rattle.mesh_placing.proofs.placing.lower.Goals as goal

pub returns : goal.returns
returns c =
    let px : FitsSigned w32 c.args.p.x = search rules in
    let py : FitsSigned w32 c.args.p.y = search rules in
    let pz : FitsSigned w32 c.args.p.z = search rules in
    let qx : FitsSigned w32 c.args.q.x = search rules in
    let qy : FitsSigned w32 c.args.q.y = search rules in
    let qz : FitsSigned w32 c.args.q.z = search rules in
    let fx : FitsSigned w32 c.min.result = search rules in
    let fy : FitsSigned w32 c.min-2.result = search rules in
    let fz : FitsSigned w32 c.min-3.result = search rules in
    let ex = simp to_z-of_z at c.min.ensures.value in
    let ey = simp to_z-of_z at c.min-2.ensures.value in
    let ez = simp to_z-of_z at c.min-3.ensures.value in
    corner-is (lower c.args.p c.args.q) c.min.result c.min-2.result c.min-3.result fx fy fz ex ey ez
