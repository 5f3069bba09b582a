use Rattle.std.proofs.Common.{◌≡◌, ◌<◌, ◌+◌, ◌*◌, ◌^◌, length, get_or, arith, refl, sym, ap, ◌∙◌, subst}
use Rattle.std.proofs.lemmas.List.{length-set}
use Rattle.clip_core.specs.declared.rays.Ray.{Ray}
use Rattle.clip_core.specs.declared.windings.Windings.{Windings}
use Rattle.clip_core.specs.Windings.{none, plus}
use Rattle.clip_core.specs.Inner.Small.{AreSmall}
use Rattle.clip_core.specs.Inner.Raises.{raised, lifted}
use Rattle.clip_core.proofs.Shares.{small-none, wider}
use Rattle.clip_core.proofs.Lifts.{raised-zero, raises-step, small-plus}
use Rattle.clip_core.proofs.Stretches.{lift-done, lift-left}
use Rattle.clip_core.proofs.raises.lift.Goals as goal

pub loop-k-init : goal.loop-k-init
loop-k-init c = record {
  count = refl;
  by_is = sym (raised-zero c.args.raises.now);
  by_small = small-none none refl;
  done = λ j d lt. absurd (omega arith);
  left = λ j d le below. refl;
}

pub loop-k-preserved : goal.loop-k-preserved
loop-k-preserved c =
    let h = c.loop-k.invariant in
    let k = c.loop-k.k in
    let rays = c.loop-k.rays.items in
    let raises = c.args.raises.now in
    let by = c.plus-by.result in
    let v = c.lifted.result in
    let inside : k < length rays = omega (arith, c.len-k-end.ensures, c.loop-k-test.true, h.count) in
    let below : k < length raises = omega (arith, inside, h.count, c.requires.enough) in
    let sum : by ≡ raised raises (k + 1) = raises-step raises k c.loop-k.by by below h.by_is c.plus-by.ensures in
    let small = small-plus (2 ^ 40 * k) (2 ^ 40) c.loop-k.by (get_or raises k none) h.by_small (c.requires.small.raises_small k none below) in
    record {
      count = length-set rays k v ∙ h.count;
      by_is = sum;
      by_small = subst (λ (w : Windings). AreSmall (2 ^ 40 * (k + 1)) w) (sym c.plus-by.ensures) (wider (2 ^ 40 * k + 2 ^ 40) (2 ^ 40 * (k + 1)) (plus c.loop-k.by (get_or raises k none)) (omega arith) small);
      done = lift-done rays c.args.rays.now.items raises k by v c.index.result.now inside sum (c.lifted.ensures ∙ ap (λ (r : Ray). lifted by r) c.index.ensures) h.left h.done;
      left = λ j d le lt. lift-left rays c.args.rays.now.items k v h.left j d le (let e = length-set rays k v in omega arith);
    }
