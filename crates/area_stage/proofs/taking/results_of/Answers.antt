use Rattle.std.proofs.Common.{◌+◌, ◌∙◌, ℕ, length, arith, sym, ap, subst}
use Rattle.std.specs.Vec.Iter.{into_iter_items}
use Rattle.std.specs.Fn.{FnReturns}
use Rattle.area_stage.specs.Inner.Taking.{IsSlot}
use Rattle.area_stage.proofs.Slots.{AreFrom, first-slot, rest-slots, one-more, one-longer}
use Rattle.area_stage.proofs.taking.results_of.Goals as goal

pub result_at-requires-clause-slot : goal.result_at-requires-clause-slot
result_at-requires-clause-slot g c =
    let n = length c.loop-slot.results.items in
    subst (λ (j : ℕ). IsSlot g.F.Fn c.args.f.now c.args.from j c.in-Some.slot) (sym (c.len-index.ensures ∙ c.loop-slot.results.ok.0)) (first-slot g.F.Fn c.args.f.now c.args.from n (into_iter_items c.loop-slot.slot-iterator) (into_iter_items c.next.new.self) c.in-Some.slot c.in-Some.ensures.steps.0 c.loop-slot.invariant.rest)

pub loop-slot-preserved : goal.loop-slot-preserved
loop-slot-preserved g c =
    let f = c.args.f.now in
    let xs = c.loop-slot.results.items in
    let n = length xs in
    let steps = c.in-Some.ensures.steps.0 in
    let rest = into_iter_items c.next.new.self in
    let pushed = c.in_ok-push.ensures.items in
    let len = one-longer xs c.push.new.self.items c.result_at.result pushed in
    let t = ap length steps in
    let gives = subst (λ (j : ℕ). FnReturns g.F.Fn f (c.args.from + j, tt) c.result_at.result) (c.len-index.ensures ∙ c.loop-slot.results.ok.0) c.result_at.ensures in
    record {
      total = omega (arith, len, t, c.loop-slot.invariant.total);
      rest = subst (λ (j : ℕ). AreFrom g.F.Fn f c.args.from j rest) (sym len) (rest-slots g.F.Fn f c.args.from n (into_iter_items c.loop-slot.slot-iterator) rest c.in-Some.slot steps c.loop-slot.invariant.rest);
      so_far = one-more g.F.Fn f c.args.from xs c.push.new.self.items c.result_at.result pushed c.loop-slot.invariant.so_far gives;
    }
