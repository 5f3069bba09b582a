use Rattle.std.proofs.Common.{length, drop, map, ◌-◌, ◌≤◌}
use Rattle.std.specs.Prelude.{string_bytes}
use Rattle.cli_words.proofs.Reading.{Drafted}
use Rattle.cli_words.proofs.draft.drafted.Given as goal

abbrev pub invariant-words : goal.invariant-words
invariant-words l = record {
  drafted : Drafted (map string_bytes l.words) (map string_bytes (drop l.at l.words)) l.at l.draft;
  within : l.at ≤ length l.words;
  files_few : l.draft.files ≤ l.at;
  meshes_few : l.draft.meshes ≤ l.at;
}

abbrev pub decreases-words : goal.decreases-words
decreases-words l = length l.words - l.at
