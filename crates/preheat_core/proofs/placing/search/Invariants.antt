use Rattle.std.proofs.Common.{◌≡◌, ◌+◌, ◌-◌, ◌<◌, ◌≤◌}
use Rattle.preheat_core.specs.Need.{latest}
use Rattle.preheat_core.specs.Places.{is_covering, place_of}
use Rattle.preheat_core.proofs.placing.search.Given as goal

abbrev pub invariant-halves : goal.invariant-halves
invariant-halves l = record {
  low : l.span.low < l.span.high;
  front : l.front ≤ l.span.low;
  high : l.span.high ≤ l.start + 1;
  rest : place_of l.window l.e l.left l.front l.start ≡ latest (is_covering l.window l.e l.left l.front l.start) l.span.low (l.span.high - 1 - l.span.low);
}

abbrev pub decreases-halves : goal.decreases-halves
decreases-halves l = l.span.high - l.span.low
