use Rattle.std.proofs.Common.{◌≡◌, ◌∙◌, ℕ, ◌+◌, ◌<◌, List, [], ◌∷◌, arith, sym, ap, subst, length, length-append, Result, Ok, Err}
use Rattle.std.specs.Vec.Iter.{into_iter_items}
use Rattle.std.proofs.lemmas.Result.{MatchResult-at_ok, MatchResult-at_err, err_from_is_err_and}
use Rattle.slice_base.specs.Outcomes.{up_to}
use Rattle.slice_base.proofs.Outcomes.{up_to-length, up_to-ok}
use Rattle.wall_skin.specs.declared.skins.Split.{Split}
use Rattle.area_stage.specs.declared.faults.AreaFault.{AreaFault}
use Rattle.area_stage.specs.Faults.{Tangle}
use Rattle.area_stage.specs.Inner.Faults.{IsAreaFault, FromNumber, GivesNumber}
use Rattle.area_stage.specs.Fills.{layer_splits_of}
use Rattle.area_stage.proofs.Naming.{area-up_to}
use Rattle.area_stage.proofs.Numbers.{from_each}
use Rattle.area_stage.proofs.phases.with_splits.Goals as goal

pub loop-item-init : goal.loop-item-init
loop-item-init g c =
    let f = layer_splits_of c.args.settings.now c.args.columns.now in
    let e = c.into_iter-item-iterator.ensures.into_iter_gives.0 in
    let len = up_to-length f c.args.from c.args.below c.requires.below in
    let all = from_each (GivesNumber f) c.args.from c.in_ok-results.results.items (λ i d below. c.in_ok-results.ensures.each i d below) in
    rw len (record {
      rest = rw e all;
      total = rw e (omega (arith, c.in_ok-results.ensures.len));
      so_far = c.requires.below;
    })

given : (f : ℕ → Result (List Split) Tangle) (n : ℕ) (xs rest : List (Result (List Split) AreaFault)) (x : Result (List Split) AreaFault) → xs ≡ x ∷ rest → FromNumber (GivesNumber f) n xs → FromNumber (GivesNumber f) n (x ∷ rest)
given f n xs rest x e h = subst (λ (l : List (Result (List Split) AreaFault)). FromNumber (GivesNumber f) n l) e h

pub returns-in_err-item-clause-fault : goal.returns-in_err-item-clause-fault
returns-in_err-item-clause-fault g c =
    let p = err_from_is_err_and c.from_residual-in_err-item.result c.from_residual-in_err-item.ensures.1 in
    let e = p.1 ∙ ap Err p.2 in
    let f = layer_splits_of c.args.settings.now c.args.columns.now in
    let n = length c.loop-item.splits in
    let steps = c.in-Some.ensures.steps.0 in
    let fault = c.in_err-item.field-0.0 in
    let g = given f n (into_iter_items c.loop-item.item-iterator) (into_iter_items c.next.new.self) c.in-Some.item steps c.loop-item.invariant.rest in
    let h = MatchResult-at_err (λ (a : List Split). f n ≡ Ok a) (IsAreaFault (f n)) fault c.in_err-item.was g.0 in
    let t = ap (λ (l : List (Result (List Split) AreaFault)). length l) steps in
    rw e (λ all more. let below : n < all = omega (arith, c.loop-item.invariant.total, t, more) in area-up_to f n all c.loop-item.splits fault c.loop-item.invariant.so_far below h)

pub loop-item-preserved : goal.loop-item-preserved
loop-item-preserved g c =
    let f = layer_splits_of c.args.settings.now c.args.columns.now in
    let n = length c.loop-item.splits in
    let steps = c.in-Some.ensures.steps.0 in
    let rest = into_iter_items c.next.new.self in
    let g = given f n (into_iter_items c.loop-item.item-iterator) (into_iter_items c.next.new.self) c.in-Some.item steps c.loop-item.invariant.rest in
    let now = MatchResult-at_ok (λ (a : List Split). f n ≡ Ok a) (IsAreaFault (f n)) c.in_ok-item.field-0 c.in_ok-item.was g.0 in
    let pushed = c.in_ok-push.ensures.ok in
    let more = up_to-ok f n c.loop-item.splits c.push.new.self c.in_ok-item.field-0 c.loop-item.invariant.so_far now pushed in
    let len : length c.push.new.self ≡ length c.loop-item.splits + 1 = omega (arith, ap length pushed, length-append c.loop-item.splits (c.in_ok-item.field-0 ∷ [])) in
    let t = ap (λ (l : List (Result (List Split) AreaFault)). length l) steps in
    record {
      rest = subst (λ (j : ℕ). FromNumber (GivesNumber f) j rest) (sym len) g.1;
      total = omega (arith, len, t, c.loop-item.invariant.total);
      so_far = subst (λ (j : ℕ). up_to f j ≡ Ok c.push.new.self) (sym len) more;
    }

pub returns-clause-splits : goal.returns-clause-splits
returns-clause-splits g c =
    let f = layer_splits_of c.args.settings.now c.args.columns.now in
    let none : length (into_iter_items c.loop-item.item-iterator) ≡ 0 = sym c.loop-item.item-iterator.rest.ok.0 ∙ c.in-None.ensures.steps.0 in
    let all : length c.loop-item.splits ≡ c.args.from + c.args.count = omega (arith, none, c.loop-item.invariant.total) in
    subst (λ (j : ℕ). up_to f j ≡ Ok c.loop-item.splits) all c.loop-item.invariant.so_far
