use Rattle.std.proofs.Common.{◌∙◌, ℕ, length, sym, subst}
use Rattle.std.specs.List.{All}
use Rattle.std.specs.Vec.Iter.{into_iter_items}
use Rattle.area_stage.specs.Inner.Taking.{IsDone}
use Rattle.area_stage.proofs.Slots.{rest-of, put-keeps, put-length}
use Rattle.area_stage.proofs.taking.put_pile.Goals as goal

pub loop-done-preserved : goal.loop-done-preserved
loop-done-preserved g c =
    let f = c.args.f.now in
    let slots = c.loop-done.slots.items in
    let new = c.put.new.slots.items in
    let done = c.in-Some.done in
    let pile = into_iter_items c.loop-done.done-iterator in
    let rest = into_iter_items c.next.new.self in
    let steps = c.in-Some.ensures.steps.0 in
    let len = put-length slots new done c.put.ensures in
    let left = rest-of (IsDone g.F.Fn f c.args.from (length slots)) pile rest done steps c.loop-done.invariant.rest in
    record {
      len = len ∙ c.loop-done.invariant.len;
      rest = subst (λ (n : ℕ). All (IsDone g.F.Fn f c.args.from n) rest) (sym len) left;
      slots = put-keeps g.F.Fn f c.args.from slots new pile rest done steps c.put.ensures c.loop-done.invariant.rest c.loop-done.invariant.slots;
    }
