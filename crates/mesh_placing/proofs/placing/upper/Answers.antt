use Rattle.std.proofs.Common.{FitsSigned, w32, rules}
use Rattle.std.proofs.lemmas.Int.{to_z-of_z}
use Rattle.mesh_placing.specs.Extents.{upper}
use Rattle.mesh_placing.proofs.Corners.{corner-is}
use Rattle.mesh_placing.proofs.placing.upper.Goals as goal

pub returns : goal.returns
returns c =
    let px : FitsSigned w32 c.args.p.x = search rules in
    let py : FitsSigned w32 c.args.p.y = search rules in
    let pz : FitsSigned w32 c.args.p.z = search rules in
    let qx : FitsSigned w32 c.args.q.x = search rules in
    let qy : FitsSigned w32 c.args.q.y = search rules in
    let qz : FitsSigned w32 c.args.q.z = search rules in
    let fx : FitsSigned w32 c.max.result = search rules in
    let fy : FitsSigned w32 c.max-2.result = search rules in
    let fz : FitsSigned w32 c.max-3.result = search rules in
    let ex = simp to_z-of_z at c.max.ensures.value in
    let ey = simp to_z-of_z at c.max-2.ensures.value in
    let ez = simp to_z-of_z at c.max-3.ensures.value in
    corner-is (upper c.args.p c.args.q) c.max.result c.max-2.result c.max-3.result fx fy fz ex ey ez
