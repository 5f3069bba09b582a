use Rattle.std.proofs.Common.{List, sym, subst}
use Rattle.std.specs.List.{All}
use Rattle.std.proofs.lemmas.List.Elements.{All-weaker}
use Rattle.std.proofs.lemmas.List.Sorted.{All-permutation}
use Rattle.infill_lines.specs.Inner.Places.{IsPlace}
use Rattle.infill_lines.specs.Inner.Sorting.{IsOnLine}
use Rattle.infill_lines.proofs.Sorting.{sorted-is}
use Rattle.infill_lines.proofs.pairs.in_order.Goals as goal

pub returns-clause-exact : goal.returns-clause-exact
returns-clause-exact c =
    sorted-is c.args.line.at c.args.places.now c.in_ok-places.places.items c.requires c.in_ok-places.ensures.rising c.in_ok-places.ensures.same

pub returns-clause-small : goal.returns-clause-small
returns-clause-small c =
    All-weaker (IsOnLine c.args.line.at) (IsPlace 3400000) (λ p h. h.place) c.in_ok-places.places.items
    (All-permutation (IsOnLine c.args.line.at) c.args.places.now c.in_ok-places.places.items c.in_ok-places.ensures.same c.requires)
