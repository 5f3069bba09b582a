use Rattle.std.proofs.Common.{List, rules, sym, subst}
use Rattle.std.specs.Ordering.{is_lt, eq_by_cmp}
use Rattle.std.specs.List.{Contains}
use Rattle.std.specs.List.Sorted.{IsSorted}
use Rattle.std.proofs.lemmas.Fn.{dedup_same}
use Rattle.std.proofs.lemmas.List.Kept.{Contains-from_dedup}
use Rattle.std.proofs.lemmas.List.Sorted.{ranks_by, answers_always, Contains-permutation, IsPermutation-sym}
use Rattle.edge_cut.specs.declared.stops.Stop.{Stop}
use Rattle.edge_cut.specs.Ordered.{IsRising}
use Rattle.edge_cut.specs.Inner.Gathered.{order_of}
use Rattle.edge_cut.proofs.Sorted.{order_of-total, dedup-rising, dedup-kept}
use Rattle.edge_cut.proofs.stops.in_order.Goals as goal

pub returns : goal.returns
returns c =
    let sorted = c.sort_unstable_by.new.self.items in
    let moved = c.sort_unstable_by.ensures.permutation in
    let up : IsSorted order_of sorted = c.sort_unstable_by.ensures.sorted (λ s t. is_lt (order_of s t)) (ranks_by order_of-total (λ s. s)) (answers_always _ _ _ (λ f a r g h. search rules)) in
    let is = dedup_same _ (eq_by_cmp order_of) _ (λ x y b f x' y' h. search rules) _ _ c.dedup_by.ensures.filtered in
    record {
      rising = subst (λ (ss : List Stop). IsRising ss) (sym is) (dedup-rising sorted up);
      kept = λ s h. subst (λ (ss : List Stop). Contains ss s) (sym is) (dedup-kept sorted s (Contains-permutation _ _ s moved h));
      only = λ s h. Contains-permutation _ _ s (IsPermutation-sym _ _ moved) (Contains-from_dedup (eq_by_cmp order_of) sorted s (subst (λ (ss : List Stop). Contains ss s) is h));
      few = search rules;
    }
