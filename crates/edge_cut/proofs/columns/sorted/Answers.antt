use Rattle.std.proofs.Common.{rules}
use Rattle.std.proofs.lemmas.List.Sorted.{IsNonDecreasingBy-from_sort_by_key}
use Rattle.edge_cut.proofs.Compared.{moved-filed}
use Rattle.edge_cut.proofs.columns.sorted.Goals as goal

pub returns-clause-filed : goal.returns-clause-filed
returns-clause-filed c = moved-filed c.args.lies c.args.bits c.args.all.now c.args.near.now c.in_ok-files.files.items c.sort_unstable_by_key.new.self.items c.sort_unstable_by_key.ensures.permutation c.in_ok-files.ensures

pub returns-clause-rising : goal.returns-clause-rising
returns-clause-rising c = IsNonDecreasingBy-from_sort_by_key (λ f. f.key) _ c.sort_unstable_by_key.ensures.sorted (λ a r q k. search rules)
