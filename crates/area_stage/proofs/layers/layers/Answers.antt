use Rattle.std.proofs.Common.{◌≡◌, List, [], ◌∷◌, ◌++◌, arith, ap, subst, length, length-append}
use Rattle.std.specs.List.{All}
use Rattle.std.specs.Vec.Iter.{into_iter_items}
use Rattle.std.proofs.lemmas.List.Elements.{All-tail, All-push, All-same}
use Rattle.plan_types.specs.Areas.{MeshAreasValue}
use Rattle.plan_types.specs.declared.jobs.LayerAreas.{LayerAreas}
use Rattle.plan_types.specs.Jobs.{IsLayer}
use Rattle.area_stage.specs.Jobs.{layers_from}
use Rattle.area_stage.proofs.LayerSteps.{layers-step}
use Rattle.area_stage.proofs.layers.layers.Goals as goal

pub loop-a-preserved : goal.loop-a-preserved
loop-a-preserved c =
    let l = c.loop-a in
    let s = c.args.settings.now in
    let xs = into_iter_items c.loop-a.a-iterator in
    let rest = into_iter_items c.next.new.self in
    let steps = c.in-Some.ensures.steps.0 in
    let layer = c.layer-next.result in
    let pushed = c.in_ok-push.ensures.ok in
    let t = ap (λ (k : List (List MeshAreasValue)). length k) steps in
    let more = ap (λ (k : List LayerAreas). length k) pushed in
    let len = length-append l.layers (layer ∷ []) in
    let all : All (λ (a : List MeshAreasValue). length a ≡ length c.args.settings.now.meshes) (c.in-Some.a ∷ into_iter_items c.next.new.self) = subst (λ (k : List (List MeshAreasValue)). All (λ (a : List MeshAreasValue). length a ≡ length c.args.settings.now.meshes) k) steps l.invariant.as_many in
    record {
      so_far = layers-step s l.layers c.push.new.self l.k l.before c.last-before.result xs rest c.in-Some.a layer c.extruders.result.now (layers_from s 0 c.args.first c.args.areas) steps c.layer-next.ensures.is c.extruders.ensures.value c.last-before.ensures pushed l.invariant.so_far;
      counted = omega (arith, more, len, l.invariant.counted);
      rest = omega (arith, t, l.invariant.rest);
      as_many = All-tail (λ (a : List MeshAreasValue). length a ≡ length s.meshes) c.in-Some.a rest all;
      sound = All-same (IsLayer s) c.push.new.self (l.layers ++ layer ∷ []) pushed (All-push (IsLayer s) l.layers layer l.invariant.sound c.layer-next.ensures.sound);
    }
