use Rattle.std.proofs.Common.{rules, arith}
use Rattle.std.proofs.lemmas.List.Sorted.{IsNonDecreasingBy-from_sort_by_key, All-permutation, length_permutation}
use Rattle.clip_core.specs.Inner.Spots.{IsSpotOf}
use Rattle.clip_core.proofs.Spotted.{sorted-has}
use Rattle.clip_core.proofs.spots.sorted_spots.Goals as goal

pub returns-clause-count : goal.returns-clause-count
returns-clause-count c = omega (arith, length_permutation c.in_ok-spots.spots.items c.sort_unstable_by_key.new.self.items c.sort_unstable_by_key.ensures.permutation, c.in_ok-spots.ensures.count)

pub returns-clause-are : goal.returns-clause-are
returns-clause-are c = All-permutation (IsSpotOf c.args.bits c.args.bundles.now) c.in_ok-spots.spots.items c.sort_unstable_by_key.new.self.items c.sort_unstable_by_key.ensures.permutation c.in_ok-spots.ensures.are

pub returns-clause-each : goal.returns-clause-each
returns-clause-each c = sorted-has c.args.bundles.now c.in_ok-spots.spots.items c.sort_unstable_by_key.new.self.items c.in_ok-spots.ensures.count c.in_ok-spots.ensures.numbered c.sort_unstable_by_key.ensures.permutation

pub returns-clause-rising : goal.returns-clause-rising
returns-clause-rising c = IsNonDecreasingBy-from_sort_by_key (λ s. s.key) _ c.sort_unstable_by_key.ensures.sorted (λ a r q k. search rules)
