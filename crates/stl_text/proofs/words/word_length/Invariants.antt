use Rattle.std.proofs.Common.{◌≡◌, ◌≤◌, ◌+◌, ◌-◌, length, drop}
use Rattle.stl_text.specs.Inner.Cuts.{word_len}
use Rattle.stl_text.proofs.words.word_length.Given as goal

abbrev pub invariant-bytes : goal.invariant-bytes
invariant-bytes l = (l.i + word_len (drop l.i l.text) ≡ word_len l.text) × (l.i ≤ length l.text)

abbrev pub decreases-bytes : goal.decreases-bytes
decreases-bytes l = length l.text - l.i
