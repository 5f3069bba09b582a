use Rattle.std.proofs.Common.{take, get_or}
use Rattle.std.specs.List.{All}
use Rattle.path_order.specs.declared.starts.Start.{Start}
use Rattle.path_order.specs.Inner.Remaining.{no_start}
use Rattle.path_order.specs.Inner.Squares.{IsFound, Beats}
use Rattle.path_order.proofs.grid.look_in.Given as goal

abbrev pub invariant-loop-k : goal.invariant-loop-k
invariant-loop-k l = record {
  found : IsFound l.gone l.at l.starts l.found;
  kept : (s : Start) → Beats l.gone l.at l.fn.best s → Beats l.gone l.at l.found s;
  seen : All (λ k. Beats l.gone l.at l.found (get_or l.starts k no_start)) (take l.k-index l.numbers);
}
