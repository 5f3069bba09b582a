use Rattle.std.proofs.Common.{◌≡◌, ◌≤◌, ◌+◌, length, drop}
use Rattle.stl_text.specs.Lines.{read_lines}
use Rattle.stl_text.proofs.FaultLemmas.{Stands}
use Rattle.stl_text.proofs.reader.gather.Given as goal

abbrev pub invariant-lines : goal.invariant-lines
invariant-lines l = record {
  stands : Stands l.bytes l.number l.state l.gathered;
  left : drop l.number (read_lines l.bytes) ≡ read_lines l.rest;
  counted : l.number + length l.rest ≤ length l.bytes;
}

abbrev pub decreases-lines : goal.decreases-lines
decreases-lines l = length l.rest
