use Rattle.std.proofs.Common.{◌≡◌, ◌∙◌, ℕ, ◌+◌, ◌<◌, List, ◌∷◌, arith, sym, ap, subst, length, Result, Ok, Err}
use Rattle.std.specs.Vec.Iter.{into_iter_items}
use Rattle.std.proofs.lemmas.Result.{MatchResult-at_ok, MatchResult-at_err, err_from_is_err_and}
use Rattle.slice_base.specs.declared.points.Tri.{Tri}
use Rattle.slice_base.proofs.Outcomes.{up_to-length}
use Rattle.area_stage.specs.declared.faults.AreaFault.{AreaFault}
use Rattle.area_stage.specs.declared.walling.LayerWalls.{LayerWalls}
use Rattle.area_stage.specs.declared.walling.JobWalls.{JobWalls}
use Rattle.area_stage.specs.Inner.Faults.{IsAreaFault, FromNumber}
use Rattle.area_stage.specs.Walls.{layer_walls_of}
use Rattle.area_stage.specs.Inner.Walls.{AreLayerWalls, AreJobWalls, GivesLayerWalls}
use Rattle.area_stage.proofs.Naming.{area-up_to}
use Rattle.area_stage.proofs.Numbers.{from_each}
use Rattle.area_stage.proofs.phases.with_layers.Goals as goal

walls-count : (s : _) (meshes : List (List Tri)) (n : ℕ) (w : JobWalls) → AreJobWalls s meshes n w → length w.sets ≡ n
walls-count s meshes n w h = up_to-length (layer_walls_of s meshes) n w.sets h.sets

pub loop-item-init : goal.loop-item-init
loop-item-init g c =
    let s = c.args.settings.now in
    let meshes = c.args.meshes.now in
    let e = c.into_iter-item-iterator.ensures.into_iter_gives.0 in
    let len = walls-count s meshes c.args.from c.args.below c.requires.below in
    let all = from_each (GivesLayerWalls s meshes) c.args.from c.in_ok-results.results.items (λ i d below. c.in_ok-results.ensures.each i d below) in
    rw len (record {
      rest = rw e all;
      total = rw e (omega (arith, c.in_ok-results.ensures.len));
      so_far = c.requires.below;
    })

given : (s : _) (meshes : List (List Tri)) (n : ℕ) (xs rest : List (Result LayerWalls AreaFault)) (x : Result LayerWalls AreaFault) → xs ≡ x ∷ rest → FromNumber (GivesLayerWalls s meshes) n xs → FromNumber (GivesLayerWalls s meshes) n (x ∷ rest)
given s meshes n xs rest x e h = subst (λ (l : List (Result LayerWalls AreaFault)). FromNumber (GivesLayerWalls s meshes) n l) e h

now : (s : _) (meshes : List (List Tri)) (n : ℕ) (x : Result LayerWalls AreaFault) (layer : LayerWalls) → x ≡ Ok layer → GivesLayerWalls s meshes n x → AreLayerWalls s meshes n layer
now s meshes n x layer e h = MatchResult-at_ok (AreLayerWalls s meshes n) (IsAreaFault (layer_walls_of s meshes n)) layer e h

pub with_layer-requires-clause-few : goal.with_layer-requires-clause-few
with_layer-requires-clause-few g c =
    let t = ap (λ (l : List (Result LayerWalls AreaFault)). length l) c.in-Some.ensures.steps.0 in
    omega (arith, c.loop-item.invariant.so_far.few, c.loop-item.invariant.total, t, c.requires.few)

pub with_layer-requires-clause-layer_few : goal.with_layer-requires-clause-layer_few
with_layer-requires-clause-layer_few g c =
    let s = c.args.settings.now in
    let meshes = c.args.meshes.now in
    let n = length c.loop-item.walls.sets in
    let g = given s meshes n (into_iter_items c.loop-item.item-iterator) (into_iter_items c.next.new.self) c.in-Some.item c.in-Some.ensures.steps.0 c.loop-item.invariant.rest in
    (now s meshes n c.in-Some.item c.in_ok-item.field-0 c.in_ok-item.was g.0).few

pub returns-in_err-item-clause-fault : goal.returns-in_err-item-clause-fault
returns-in_err-item-clause-fault g c =
    let p = err_from_is_err_and c.from_residual-in_err-item.result c.from_residual-in_err-item.ensures.1 in
    let e = p.1 ∙ ap Err p.2 in
    let s = c.args.settings.now in
    let meshes = c.args.meshes.now in
    let n = length c.loop-item.walls.sets in
    let steps = c.in-Some.ensures.steps.0 in
    let fault = c.in_err-item.field-0.0 in
    let g = given s meshes n (into_iter_items c.loop-item.item-iterator) (into_iter_items c.next.new.self) c.in-Some.item steps c.loop-item.invariant.rest in
    let h = MatchResult-at_err (AreLayerWalls s meshes n) (IsAreaFault (layer_walls_of s meshes n)) fault c.in_err-item.was g.0 in
    let t = ap (λ (l : List (Result LayerWalls AreaFault)). length l) steps in
    rw e (λ all more. let below : n < all = omega (arith, c.loop-item.invariant.total, t, more) in area-up_to (layer_walls_of s meshes) n all c.loop-item.walls.sets fault c.loop-item.invariant.so_far.sets below h)

pub loop-item-preserved : goal.loop-item-preserved
loop-item-preserved g c =
    let s = c.args.settings.now in
    let meshes = c.args.meshes.now in
    let n = length c.loop-item.walls.sets in
    let steps = c.in-Some.ensures.steps.0 in
    let rest = into_iter_items c.next.new.self in
    let g = given s meshes n (into_iter_items c.loop-item.item-iterator) (into_iter_items c.next.new.self) c.in-Some.item steps c.loop-item.invariant.rest in
    let layer = now s meshes n c.in-Some.item c.in_ok-item.field-0 c.in_ok-item.was g.0 in
    let more = c.in_ok-walls.ensures s meshes n c.loop-item.invariant.so_far layer in
    let len = walls-count s meshes (n + 1) c.in_ok-walls.walls more in
    let t = ap (λ (l : List (Result LayerWalls AreaFault)). length l) steps in
    record {
      rest = subst (λ (j : ℕ). FromNumber (GivesLayerWalls s meshes) j rest) (sym len) g.1;
      total = omega (arith, len, t, c.loop-item.invariant.total);
      so_far = subst (λ (j : ℕ). AreJobWalls s meshes j c.in_ok-walls.walls) (sym len) more;
    }

pub returns-clause-walls : goal.returns-clause-walls
returns-clause-walls g c =
    let s = c.args.settings.now in
    let meshes = c.args.meshes.now in
    let none : length (into_iter_items c.loop-item.item-iterator) ≡ 0 = sym c.loop-item.item-iterator.rest.ok.0 ∙ c.in-None.ensures.steps.0 in
    let all : length c.loop-item.walls.sets ≡ c.args.from + c.args.count = omega (arith, none, c.loop-item.invariant.total) in
    subst (λ (j : ℕ). AreJobWalls s meshes j c.loop-item.walls) all c.loop-item.invariant.so_far
