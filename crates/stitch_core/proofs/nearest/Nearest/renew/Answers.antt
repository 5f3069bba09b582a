use Rattle.std.proofs.Common.{◌≡◌, ◌<◌, ◌∙◌, arith, length, length-set, set, refl, None, get_or}
use Rattle.std.proofs.lemmas.List.{get_or-set_other, get_or_default}
use Rattle.stitch_core.proofs.Nearests.{renewed-more}
use Rattle.stitch_core.proofs.nearest.Nearest.renew.Goals as goal

pub loop-from-preserved : goal.loop-from-preserved
loop-from-preserved c = record {
  same = rw length-set c.loop-from.invariant.same;
  done =
      let gaps = c.loop-from.self.gaps.items in
      let from = c.loop-from.from in
      let below : from < length gaps = omega (arith, c.loop-from-test.true, c.loop-from.invariant.same, c.len-from-end.ensures) in
      let at : c.index.result.now ≡ get_or c.args.self.now.gaps.items from None = c.index.ensures ∙ (get_or_default gaps from c.index.result.now None below ∙ c.loop-from.invariant.rest from (omega arith)) in
      renewed-more c.args.slots.now c.args.closing c.args.self.now.gaps.items gaps (set gaps from c.renewed.result) from c.index.result.now c.renewed.result refl below at c.renewed.ensures c.loop-from.invariant.done;
  rest = λ k past. get_or-set_other c.loop-from.self.gaps.items c.loop-from.from k c.renewed.result None (λ e. absurd (omega (arith, past, e))) ∙ c.loop-from.invariant.rest k (omega (arith, past));
}
