use Rattle.std.proofs.Common.{◌≡◌, ◌+◌, ◌≤◌, drop}
use Rattle.std.specs.Fmt.{char_count}
use Rattle.cura_slice.proofs.listing.characters.Given as goal

abbrev pub invariant-loop-byte : goal.invariant-loop-byte
invariant-loop-byte l = record {
  counted : l.count + char_count (drop l.byte-index l.text) ≡ char_count l.text;
  few : l.count ≤ l.byte-index;
}
