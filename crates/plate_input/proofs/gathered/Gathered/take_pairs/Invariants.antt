use Rattle.std.proofs.Common.{◌≡◌}
use Rattle.plate_input.specs.Inner.Gathering.{with_pairs}
use Rattle.plate_input.proofs.gathered.Gathered.take_pairs.Given as goal

abbrev pub invariant-loop-pair : goal.invariant-loop-pair
invariant-loop-pair l = l.self ≡ with_pairs l.yielded l.fn.self
