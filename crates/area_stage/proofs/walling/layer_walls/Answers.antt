use Rattle.std.proofs.Common.{◌≡◌, ◌∙◌, List, arith, refl, sym, ap, subst, length, take, Result, Ok, Err}
use Rattle.std.specs.List.{All}
use Rattle.std.proofs.lemmas.Result.{err_from_is_err_and}
use Rattle.std.proofs.lemmas.List.Elements.{All-get_or}
use Rattle.slice_base.specs.declared.points.Tri.{Tri}
use Rattle.slice_base.specs.Boxes.{TriIn, around}
use Rattle.slice_base.specs.Outcomes.{each_ok}
use Rattle.slice_base.proofs.Outcomes.{up_to-none, up_to-ok}
use Rattle.wall_skin.specs.declared.walling.WallSet.{WallSet}
use Rattle.area_stage.specs.Faults.{Tangle}
use Rattle.area_stage.specs.Inner.Faults.{IsAreaFault}
use Rattle.area_stage.specs.Outlines.{cleaned_of}
use Rattle.area_stage.specs.Walls.{mesh_walls_of}
use Rattle.area_stage.proofs.Naming.{area-up_to}
use Rattle.area_stage.proofs.WallSteps.{cleaned-step, open-step, mesh-walls-at, layer-walls-are, first-outlines, all-open}
use Rattle.area_stage.proofs.walling.layer_walls.Goals as goal

pub loop-i-init : goal.loop-i-init
loop-i-init c = rw (c.new-outlines.ensures, c.new-sets.ensures) (record {
  cleaned = refl;
  so_far = up_to-none (mesh_walls_of c.args.settings.now c.args.meshes.now c.args.layer);
  counted = refl;
  few = omega arith;
  seen = omega arith;
})

pub named_walls-requires : goal.named_walls-requires
named_walls-requires c = record {
  inside =
      subst (λ (m : List Tri). All (TriIn (around 1000000)) m) (sym c.index-meshes-i.is)
      (All-get_or (λ (m : List Tri). All (TriIn (around 1000000)) m) c.args.meshes.now c.loop-i.i c.index-meshes-i.result c.loop-i-test.true c.requires.inside);
}

pub overflow_cast-i : goal.overflow_cast-i
overflow_cast-i c = omega (arith, c.loop-i-test.true, c.requires.as_many, c.mesh_settings-m.ensures.few)

pub returns-in_err-next : goal.returns-in_err-next
returns-in_err-next c =
    let p = err_from_is_err_and c.from_residual.result c.from_residual.ensures.1 in
    let e = p.1 ∙ ap Err p.2 in
    let l = c.loop-i in
    let s = c.args.settings.now in
    let meshes = c.args.meshes.now in
    let fault = c.in_err-next.field-0.0 in
    let before = take l.i meshes in
    let others : each_ok (cleaned_of c.height-at.result.z) (take c.loop-i.i c.args.meshes.now) ≡ Ok c.items.result.now = l.invariant.cleaned ∙ ap Ok (sym c.items.ensures) in
    let at = mesh-walls-at s meshes c.args.layer l.i c.height-at.result.z c.index-meshes-i.result c.mesh_settings-m.result c.loop-i-test.true c.index-meshes-i.is c.height-at.ensures c.mesh_settings-m.ensures.is in
    let h = subst (λ (r : Result WallSet Tangle). IsAreaFault r c.in_err-next.field-0.0) at (c.in_err-next.ensures.answer before others) in
    let t = area-up_to (mesh_walls_of s meshes c.args.layer) l.i (length meshes) l.sets fault l.invariant.so_far c.loop-i-test.true h in
    rw e (subst (λ (r : Result (List WallSet) Tangle). IsAreaFault r c.in_err-next.field-0.0) (layer-walls-are s meshes c.args.layer (length meshes) refl) t)

pub loop-i-preserved : goal.loop-i-preserved
loop-i-preserved c =
    let l = c.loop-i in
    let s = c.args.settings.now in
    let meshes = c.args.meshes.now in
    let mesh = c.index-meshes-i.result in
    let z = c.height-at.result.z in
    let next = c.in_ok-next.next in
    let before = take l.i meshes in
    let others : each_ok (cleaned_of c.height-at.result.z) (take c.loop-i.i c.args.meshes.now) ≡ Ok c.items.result.now = l.invariant.cleaned ∙ ap Ok (sym c.items.ensures) in
    let at = mesh-walls-at s meshes c.args.layer l.i z mesh c.mesh_settings-m.result c.loop-i-test.true c.index-meshes-i.is c.height-at.ensures c.mesh_settings-m.ensures.is in
    record {
      cleaned = cleaned-step z meshes l.i mesh l.outlines _ next.outline c.loop-i-test.true c.index-meshes-i.is c.in_ok-next.ensures.own c.in_ok-push.ensures.ok l.invariant.cleaned;
      so_far = up_to-ok (mesh_walls_of s meshes c.args.layer) l.i l.sets _ next.set l.invariant.so_far (sym at ∙ c.in_ok-next.ensures.answer before others) c.in_ok-push-2.ensures.ok;
      counted = open-step z meshes l.i mesh l.open_outlines _ next.open_outlines c.loop-i-test.true c.index-meshes-i.is c.in_ok-next.ensures.open_outlines refl l.invariant.counted;
      few = omega (arith, l.invariant.few);
      seen = omega (arith, c.loop-i-test.true, c.requires.as_many, c.mesh_settings-m.ensures.few);
    }

pub returns : goal.returns
returns c =
    let l = c.loop-i in
    let s = c.args.settings.now in
    let meshes = c.args.meshes.now in
    let z = c.height-at.result.z in
    let end : c.loop-i.i ≡ length c.args.meshes.now = omega (arith, c.loop-i-test.false, c.loop-i.auto.i-end) in
    record {
      sets = sym (layer-walls-are s meshes c.args.layer l.i end) ∙ l.invariant.so_far;
      outlines = λ first. first-outlines s meshes c.args.layer z l.i l.outlines c.first_outlines.result end c.height-at.ensures first l.invariant.cleaned c.first_outlines.ensures;
      open_outlines = all-open s meshes c.args.layer z l.i l.open_outlines end c.height-at.ensures l.invariant.counted;
      few = omega (arith, l.invariant.few, l.invariant.seen);
    }
