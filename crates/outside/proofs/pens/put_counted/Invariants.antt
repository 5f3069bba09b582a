use Rattle.std.proofs.Common.{◌≤◌, ◌-◌, ◌≡◌, length, take}
use Rattle.outside.specs.Output.{Put}
use Rattle.outside.specs.Pens.{bytes_after}
use Rattle.outside.proofs.pens.put_counted.Given as goal

abbrev pub invariant-pieces : goal.invariant-pieces
invariant-pieces g l = record {
  within : l.at ≤ length l.bytes;
  put : Put (g.S.Sink.output l.initial.sink) (take l.at l.bytes) (g.S.Sink.output l.sink);
  counted : l.count ≡ bytes_after l.initial.count l.at;
}

abbrev pub decreases-pieces : goal.decreases-pieces
decreases-pieces g l = length l.bytes - l.at
