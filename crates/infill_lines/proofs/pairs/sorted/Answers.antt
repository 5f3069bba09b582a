use Rattle.std.proofs.Common.{rules}
use Rattle.std.proofs.lemmas.List.Sorted.{IsNonDecreasingBy-from_sort_by_key}
use Rattle.infill_lines.specs.Inner.Sorting.{number_of}
use Rattle.infill_lines.proofs.pairs.sorted.Goals as goal

pub returns-clause-rising : goal.returns-clause-rising
returns-clause-rising c = IsNonDecreasingBy-from_sort_by_key number_of _ c.in_ok-sort_by_key.ensures.sorted (λ a r q k. search rules)
