use Rattle.std.proofs.Common.{map}
use Rattle.std.specs.Prelude.{string_bytes}
use Rattle.cura_slice.proofs.Passed.{Passed}
use Rattle.cura_slice.proofs.words.given.Given as goal

abbrev pub invariant-loop-index : goal.invariant-loop-index
invariant-loop-index g l = Passed (g.L.CommandLine.words l.line) (map string_bytes l.words.items) l.index
