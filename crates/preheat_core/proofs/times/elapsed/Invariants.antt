use Rattle.std.proofs.Common.{◌≡◌, ◌+◌, drop}
use Rattle.std.specs.List.{sum}
use Rattle.preheat_core.specs.Times.{all_times, elapsed_of}
use Rattle.preheat_core.proofs.times.elapsed.Given as goal

abbrev pub invariant-loop-l : goal.invariant-loop-l
invariant-loop-l l = record {
  rest : l.time + elapsed_of (drop l.l-index l.window) l.rest ≡ elapsed_of l.window l.number;
  whole : l.time + sum (all_times (drop l.l-index l.window)) ≡ sum (all_times l.window);
}
