use Rattle.std.proofs.Common.{◌<◌, ◌+◌, ℕ, List, [], ◌∷◌, get_or, length, length-append, arith, sym, ap, subst, ◌∙◌}
use Rattle.clip_core.specs.Inner.Starts.{IsFirst}
use Rattle.clip_core.proofs.Begun.{first-none, first-above, firsts-more}
use Rattle.clip_core.proofs.starts.starts_of.Goals as goal

pub loop-j-init : goal.loop-j-init
loop-j-init c = record {
  count = ap length c.in_ok-firsts.ensures.items;
  at = first-none (c.base_of-base.result + 0) c.args.rays.now;
  each = λ j below. absurd (omega (arith, below, ap length c.in_ok-firsts.ensures.items));
}

pub loop-j-preserved : goal.loop-j-preserved
loop-j-preserved c =
    let h = c.loop-j.invariant in
    let base = c.base_of-base.result in
    let rays = c.args.rays.now in
    let old = c.loop-j.firsts.items in
    let i = c.first_from-i.result in
    let j = c.loop-j.j in
    let here : IsFirst (base + length old) i rays = subst (λ (n : ℕ). IsFirst (base + n) i rays) (sym h.count) c.first_from-i.ensures in
    record {
      count = ap length c.in_ok-push_first.ensures ∙ (length-append old (i ∷ []) ∙ ap (λ (n : ℕ). n + 1) h.count);
      at = first-above (base + j) (base + (j + 1)) i rays (omega arith) c.first_from-i.ensures;
      each = subst (λ (ks : List ℕ). (j : ℕ) → j < length ks → IsFirst (base + j) (get_or ks j 0) rays) (sym c.in_ok-push_first.ensures) (firsts-more base i old rays here h.each);
    }
