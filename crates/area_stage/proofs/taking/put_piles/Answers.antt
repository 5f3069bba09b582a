use Rattle.std.proofs.Common.{◌∙◌, ℕ, length, sym, subst, IfOk}
use Rattle.std.specs.List.{All}
use Rattle.std.specs.Vec.Iter.{into_iter_items}
use Rattle.area_stage.specs.Inner.Taking.{IsDone}
use Rattle.area_stage.proofs.Slots.{rest-of}
use Rattle.area_stage.proofs.taking.put_piles.Goals as goal

pub loop-pile-preserved : goal.loop-pile-preserved
loop-pile-preserved g c =
    let f = c.args.f.now in
    let slots = c.loop-pile.slots.items in
    let rest = into_iter_items c.next.new.self in
    let len = c.put_pile.ensures.len in
    let left = rest-of (λ pile. IfOk pile (λ p. All (IsDone g.F.Fn f c.args.from (length slots)) p.items)) (into_iter_items c.loop-pile.pile-iterator) rest c.in-Some.pile c.in-Some.ensures.steps.0 c.loop-pile.invariant.rest in
    record {
      len = len ∙ c.loop-pile.invariant.len;
      rest = subst (λ (n : ℕ). All (λ pile. IfOk pile (λ p. All (IsDone g.F.Fn f c.args.from n) p.items)) rest) (sym len) left;
      slots = c.put_pile.ensures.slots;
    }
