use Rattle.std.proofs.Common.{◌≡◌, Err, Some, None, List, length, arith, ap, refl, sym, ◌∙◌, subst}
use Rattle.std.proofs.lemmas.Result.{err_from_is_err_and}
use Rattle.slice_base.specs.declared.points.Tri.{Tri}
use Rattle.mesh_placing.specs.Places.{placed}
use Rattle.mesh_placing.specs.Extents.{extent_of}
use Rattle.mesh_placing.specs.Volume.{excess_of, first_outside}
use Rattle.plate_input.specs.Inner.Stages.{LiesInside}
use Rattle.plate_input.proofs.Placings.{mesh_unread, mesh_outside, mesh_placed, written}
use Rattle.plate_input.proofs.meshes.place_mesh.Goals as goal

pub returns-in_err-read_triangles-clause-gives : goal.returns-in_err-read_triangles-clause-gives
returns-in_err-read_triangles-clause-gives c =
    let p = err_from_is_err_and c.from_residual.result c.from_residual.ensures.1 in
    let q = c.in_err-read_triangles.field-0.0 in
    let e : c.from_residual.result ≡ Err c.in_err-read_triangles.field-0.0 = p.1 ∙ ap Err p.2 in
    rw e (mesh_unread c.args.settings.now c.args.mesh c.args.bytes.now q c.in_err-read_triangles.ensures.gives)

pub returns-in-Err-clause-gives : goal.returns-in-Err-clause-gives
returns-in-Err-clause-gives c =
    let s = c.args.settings.now in
    let m = c.args.mesh in
    let n = c.in-Err.outside.triangle in
    let same : c.as_mut_slice.result.now ≡ c.in_ok-read_triangles.field-0 = c.as_mut_slice.ensures.value ∙ c.into_vec-tris.ensures in
    let x = c.in-Err.outside.excess in
    let told = (c.in-Err.ensures.outside n x).0 refl in
    let out : first_outside c.args.settings.now (placed c.args.settings.now c.args.mesh c.in_ok-read_triangles.field-0) ≡ Some c.in-Err.outside.triangle = subst (λ (ts : List Tri). first_outside s (placed s m ts) ≡ Some n) same told.0 in
    let far : c.in-Err.outside.excess ≡ excess_of c.args.settings.now (extent_of (placed c.args.settings.now c.args.mesh c.in_ok-read_triangles.field-0)) = subst (λ (ts : List Tri). x ≡ excess_of s (extent_of (placed s m ts))) same told.1 in
    mesh_outside s m n x c.args.bytes.now c.in_ok-read_triangles.field-0 c.in_ok-read_triangles.ensures.gives out far

pub returns-clause-gives : goal.returns-clause-gives
returns-clause-gives c =
    let s = c.args.settings.now in
    let m = c.args.mesh in
    let ts = c.in_ok-read_triangles.field-0 in
    let same : c.as_mut_slice.result.now ≡ c.in_ok-read_triangles.field-0 = c.as_mut_slice.ensures.value ∙ c.into_vec-tris.ensures in
    let none : first_outside c.args.settings.now (placed c.args.settings.now c.args.mesh c.in_ok-read_triangles.field-0) ≡ None = subst (λ (xs : List Tri). first_outside s (placed s m xs) ≡ None) same c.in-Ok.ensures.inside in
    let as_long : length c.put_in_place.new.tris ≡ c.into_vec-tris.result.len = omega (arith, c.put_in_place.auto.tris, c.as_mut_slice.ensures.len) in
    let stands : c.in_ok-mesh_of-in-Ok.field-0 ≡ placed c.args.settings.now c.args.mesh c.in_ok-read_triangles.field-0 = c.in_ok-mesh_of-in-Ok.ensures ∙ (c.as_slice.ensures.value ∙ (written c.into_vec-tris.result.len c.put_in_place.new.tris c.into_vec-tris.result.items as_long ∙ (c.in-Ok.ensures.moved ∙ ap (placed s m) same))) in
    mesh_placed s m c.args.bytes.now ts c.in_ok-mesh_of-in-Ok.field-0 c.in_ok-read_triangles.ensures.gives none stands

pub returns-clause-inside : goal.returns-clause-inside
returns-clause-inside c =
    let s = c.args.settings.now in
    let new = c.put_in_place.new.tris in
    let same : c.as_mut_slice.result.now ≡ c.in_ok-read_triangles.field-0 = c.as_mut_slice.ensures.value ∙ c.into_vec-tris.ensures in
    let same_length : length c.as_mut_slice.result.now ≡ length c.in_ok-read_triangles.field-0 = ap length same in
    let as_long : length c.put_in_place.new.tris ≡ c.into_vec-tris.result.len = omega (arith, c.put_in_place.auto.tris, c.as_mut_slice.ensures.len) in
    let stands : c.in_ok-mesh_of-in-Ok.field-0 ≡ c.put_in_place.new.tris = c.in_ok-mesh_of-in-Ok.ensures ∙ (c.as_slice.ensures.value ∙ written c.into_vec-tris.result.len c.put_in_place.new.tris c.into_vec-tris.result.items as_long) in
    subst (LiesInside s) (sym stands) (record {
      some = omega (arith, c.put_in_place.auto.tris, same_length, c.in_ok-read_triangles.ensures.some);
      few = omega (arith, c.put_in_place.auto.tris, same_length, c.in_ok-read_triangles.ensures.few);
      on_bed = c.in-Ok.ensures.on_bed;
      over_bed = c.in-Ok.ensures.over_bed;
      under_top = c.in-Ok.ensures.under_top;
    })
