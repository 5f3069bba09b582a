use Rattle.std.proofs.Common.{◌≡◌, ◌≤◌, ◌∷◌, ◌++◌, [], Err, length, arith, sym, ap, ◌∙◌, length-append}
use Rattle.std.specs.Vec.Iter.{into_iter_items}
use Rattle.std.proofs.lemmas.Result.{err_from_is_err_and}
use Rattle.std.proofs.lemmas.List.Elements.{All-push, All-rest, All-same}
use Rattle.plate_input.specs.declared.files.TheConstants.{MOST_BYTES}
use Rattle.plate_input.specs.Inner.Stages.{LiesInside}
use Rattle.plate_input.proofs.Rows.{more_at, refused_at, ended_at}
use Rattle.plate_input.proofs.meshes.place_meshes.Goals as goal

pub returns-in_err-mesh-clause-gives : goal.returns-in_err-mesh-clause-gives
returns-in_err-mesh-clause-gives c =
    let l = c.loop-bytes in
    let p = err_from_is_err_and c.from_residual.result c.from_residual.ensures.1 in
    let e : c.from_residual.result ≡ Err c.in_err-mesh.field-0.0 = p.1 ∙ ap Err p.2 in
    rw e (refused_at c.args.settings.now c.args.files l.meshes l.number (into_iter_items l.bytes-iterator) c.in-Some.bytes c.bytes-in-loop-bytes.result.now (into_iter_items c.next.new.self) c.in_err-mesh.field-0.0
    c.in-Some.ensures.steps.0 c.bytes-in-loop-bytes.ensures l.invariant.reached c.in_err-mesh.ensures.gives)

pub loop-bytes-preserved : goal.loop-bytes-preserved
loop-bytes-preserved c =
    let l = c.loop-bytes in
    let s = c.args.settings.now in
    let items = into_iter_items l.bytes-iterator in
    let rest = into_iter_items c.next.new.self in
    let steps = c.in-Some.ensures.steps.0 in
    let pushed = c.in_ok-push.ensures.ok in
    let longer : length (into_iter_items c.loop-bytes.bytes-iterator) ≡ length (c.in-Some.bytes ∷ into_iter_items c.next.new.self) = ap length steps in
    let more_meshes : length c.push.new.self ≡ length (c.loop-bytes.meshes ++ c.in_ok-mesh.mesh ∷ []) = ap length pushed in
    record {
      reached = more_at s c.args.files l.meshes c.push.new.self l.number items c.in-Some.bytes c.bytes-in-loop-bytes.result.now rest c.in_ok-mesh.mesh steps c.bytes-in-loop-bytes.ensures pushed l.invariant.reached c.in_ok-mesh.ensures.gives;
      inside = All-same (LiesInside s) c.push.new.self (l.meshes ++ c.in_ok-mesh.mesh ∷ []) pushed (All-push (LiesInside s) l.meshes c.in_ok-mesh.mesh l.invariant.inside c.in_ok-mesh.ensures.inside);
      short = All-rest (λ bytes. length bytes ≤ MOST_BYTES) c.in-Some.bytes rest items steps l.invariant.short;
      count = omega (arith, l.invariant.count, longer);
      number = omega (arith, l.invariant.number, more_meshes, length-append c.loop-bytes.meshes (c.in_ok-mesh.mesh ∷ []));
    }

pub returns-clause-gives : goal.returns-clause-gives
returns-clause-gives c =
    let l = c.loop-bytes in
    let none : length (into_iter_items c.loop-bytes.bytes-iterator) ≡ 0 = sym l.bytes-iterator.rest.ok.0 ∙ c.in-None.ensures.steps.0 in
    ended_at c.args.settings.now c.args.files l.meshes l.number (into_iter_items l.bytes-iterator) none l.invariant.reached

pub returns-clause-as_many : goal.returns-clause-as_many
returns-clause-as_many c =
    let l = c.loop-bytes in
    let none : length (into_iter_items c.loop-bytes.bytes-iterator) ≡ 0 = sym l.bytes-iterator.rest.ok.0 ∙ c.in-None.ensures.steps.0 in
    omega (arith, none, l.invariant.count, l.invariant.number)
